-- no span ends at the ledger, and its way enters none below, so a leaf for it hangs at the nearest span above
use Rattle.std.proofs.Common.{◌≢◌, Some, None, sym, ap, subst, ◌∙◌, arith}
use Rattle.xl_trie.proofs.Common.{eqb-false, seq_at, Span, leaf_of, spans, Becomes, IsBegin}
use Rattle.xl_trie.proofs.Coming.{leaf_spans}
use Rattle.xl_trie.proofs.Listing.{some_is}
use Rattle.xl_trie.proofs.Placing.{below}
use Rattle.xl_trie.proofs.Trees.{over_of}
use Rattle.xl_trie.proofs.Ways.{length_way}
use Rattle.xl_trie.proofs.voting.end_at.Goals as goal

pub begin_of-first-requires-clause-below : goal.begin_of-first-requires-clause-below
begin_of-first-requires-clause-below c =
    let hs = c.args.registry.now.headers in
    let T = c.requires.trie in
    let P = c.requires.place in
    let own = some_is P.span c.span_at-over.result (sym P.there ∙ c.span_at-over.ensures) in
    let lt = below hs c.requires.ledgers (spans c.args.nodes.now) T.0 (Some c.args.at) T.1.spans c.args.ledger c.requires.known (record { at = c.args.at; within = None }) P (λ h. eqb-false c.span_at-over.result.ledger c.args.ledger (sym c.eq.ensures ∙ c.if-eq.false) (ap (λ (x : Span). x.ledger) (sym own) ∙ h)) in
    omega (arith, lt, length_way hs c.args.ledger, length_way hs P.span.ledger, ap (λ (x : Span). seq_at hs x.ledger) own)

pub take-name-requires-clause-hang : goal.take-name-requires-clause-hang
take-name-requires-clause-hang c = λ a s b e p. over_of c.args.registry.now.headers c.requires.ledgers (spans c.args.nodes.now) c.requires.trie.1.spans.linked b a s (e, p)

pub returns-clause-trie : goal.returns-clause-trie
returns-clause-trie c = λ votes T.
    let hs = c.args.registry.now.headers in
    let P = c.requires.place in
    let own = some_is P.span c.span_at-over.result (sym P.there ∙ c.span_at-over.ensures) in
    let other : P.span.ledger ≢ c.args.ledger = λ h. eqb-false c.span_at-over.result.ledger c.args.ledger (sym c.eq.ensures ∙ c.if-eq.false) (ap (λ (x : Span). x.ledger) (sym own) ∙ h) in
    let F = c.take-name.ensures.spans in
    let H = c.hang.ensures.spans _ F.changed in
    let B : Becomes (spans c.args.nodes.now) (spans c.hang.new.nodes) c.take-name.result (Some (leaf_of c.args.at c.args.ledger c.begin_of-first.result)) = record { changed = H.changed; others = λ b n. H.others b n ∙ F.others b n } in
    record {
      spans = leaf_spans hs c.requires.ledgers votes (spans c.args.nodes.now) (spans c.hang.new.nodes) c.args.at c.take-name.result T.spans c.args.ledger c.begin_of-first.result c.requires.known c.begin_of-first.ensures.known P other (subst (λ (x : Span). IsBegin hs c.args.ledger x.ledger c.begin_of-first.result) (sym own) c.begin_of-first.ensures.begin) c.take-name.ensures.fresh B c.requires.half;
      kids = c.hang.ensures.kids;
    }
