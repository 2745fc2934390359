use Rattle.std.proofs.Common.{Some, sym, ap, ◌∙◌}
use Rattle.xl_trie.proofs.Common.{Span, hung_at}
use Rattle.xl_trie.proofs.Listing.{some_is}
use Rattle.xl_trie.proofs.pruning.lift.Goals as goal

pub returns-clause-merged : goal.returns-clause-merged
returns-clause-merged c = λ s t p q.
    let U = c.unhang.ensures.spans t q.0 in
    let W = c.unhang-2.ensures.spans s (U.others c.args.name c.requires.apart ∙ p.0) in
    let H = c.hang.ensures.spans _ (W.others c.args.kid (λ same. c.requires.apart (sym same)) ∙ U.changed) in
    let G = c.give.ensures.spans in
    record {
      gone = G.changed;
      rest = G.others c.args.kid (λ same. c.requires.apart (sym same)) ∙ H.changed ∙ ap (λ (x : Span). Some (hung_at t (Some c.args.of) x.first)) (some_is c.span_at-first.result s (sym c.span_at-first.ensures ∙ p.0));
      others = λ b n k. G.others b n ∙ H.others b k ∙ W.others b n ∙ U.others b k;
    }
