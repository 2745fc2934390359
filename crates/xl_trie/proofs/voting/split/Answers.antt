-- the new name was free, so it isn't the child's, and each step changes the span of one name only
use Rattle.std.proofs.Common.{◌≢◌, Some, None, refl, sym, ap, ◌∙◌}
use Rattle.xl_trie.proofs.Common.{Span, spans, hung_at}
use Rattle.xl_trie.proofs.Listing.{some_is, none_some}
use Rattle.xl_trie.proofs.voting.split.Goals as goal

pub hang-requires-2-clause-free : goal.hang-requires-2-clause-free
hang-requires-2-clause-free c =
    let t = c.span_at-under.result in
    let apart : c.take-name.result ≢ c.args.kid = λ same. none_some t (sym c.take-name.ensures.fresh ∙ ap (spans c.args.nodes.now) same ∙ c.span_at-under.ensures) in
    let T = c.take-name.ensures.spans in
    let U = c.unhang.ensures.spans t (T.others c.args.kid (λ same. apart (sym same)) ∙ c.span_at-under.ensures) in
    let H = c.hang.ensures.spans _ (U.others c.take-name.result apart ∙ T.changed) in
    (hung_at t None t.first, H.others c.args.kid (λ same. apart (sym same)) ∙ U.changed, refl)

pub returns-clause-split : goal.returns-clause-split
returns-clause-split c = λ t q.
    let apart : c.take-name.result ≢ c.args.kid = λ same. none_some t (sym c.take-name.ensures.fresh ∙ ap (spans c.args.nodes.now) same ∙ q.0) in
    let T = c.take-name.ensures.spans in
    let U = c.unhang.ensures.spans t (T.others c.args.kid (λ same. apart (sym same)) ∙ q.0) in
    let H = c.hang.ensures.spans _ (U.others c.take-name.result apart ∙ T.changed) in
    let G = c.hang-2.ensures.spans _ (H.others c.args.kid (λ same. apart (sym same)) ∙ U.changed) in
    let own = some_is c.span_at-under.result t (sym c.span_at-under.ensures ∙ q.0) in
    record {
      fresh = c.take-name.ensures.fresh;
      front = G.others c.take-name.result apart ∙ H.changed ∙ ap (λ (x : Span). let r : Span = record { ledger = c.args.ledger; first = x.first; parent = Some c.args.of; tip = 0; branch = x.branch } in Some r) own;
      rest = G.changed;
      others = λ b n k. G.others b k ∙ H.others b n ∙ U.others b k ∙ T.others b n;
    }
