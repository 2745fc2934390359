-- the vote is at one span and below those above it, so their counts change, and none exceeds the votes
use Rattle.std.proofs.Common.{◌≡◌, ◌==◌, Some, sym, subst, ◌∙◌, arith}
use Rattle.xl_trie.proofs.Common.{Name, Vote, is_on_chain, Span, changed_count, with_counts, spans, Becomes, count_by-le-length}
use Rattle.xl_trie.proofs.Listing.{some_is}
use Rattle.xl_trie.proofs.Recounting.{counts_keep, linked_on, recounted, ends_on}
use Rattle.xl_trie.proofs.Trees.{one_name}
use Rattle.xl_trie.proofs.counting.recount.Goals as goal

pub of-requires : goal.of-requires
of-requires c = let T = c.requires.trie in omega (arith, T.1.spans.counted.tip c.args.at c.span_at-span.result c.span_at-span.ensures, count_by-le-length (λ (v : Vote). v.ledger == c.span_at-span.result.ledger) T.0, T.2)

pub recount_up-requires-clause-linked : goal.recount_up-requires-clause-linked
recount_up-requires-clause-linked c =
    let s = c.span_at-span.result in
    let e = c.span_at-span.ensures in
    linked_on c.args.registry.now.headers (spans c.args.nodes.now) (spans c.set_counts.new.nodes) (counts_keep (spans c.args.nodes.now) (spans c.set_counts.new.nodes) c.args.at s c.of.result s.branch e (c.set_counts.ensures.spans s e)) c.requires.trie.1.spans.linked

pub recount_up-requires-clause-small : goal.recount_up-requires-clause-small
recount_up-requires-clause-small c = λ a t o f g on.
    let hs = c.args.registry.now.headers in
    let T = c.requires.trie in
    let s = c.span_at-span.result in
    let B = c.set_counts.ensures.spans s c.span_at-span.ensures in
    grind (arith, one_name a c.args.at, f, B.changed, B.others a, T.1.spans.counted.branch a t, T.1.spans.counted.branch c.args.at s c.span_at-span.ensures, count_by-le-length (λ (v : Vote). is_on_chain hs t.ledger v.ledger) T.0, count_by-le-length (λ (v : Vote). is_on_chain hs s.ledger v.ledger) T.0, T.2)

pub returns-clause-trie : goal.returns-clause-trie
returns-clause-trie c = λ votes now v T change s e at.
    let S = spans c.args.nodes.now in
    let S1 = spans c.set_counts.new.nodes in
    let own = some_is c.span_at-span.result s (sym c.span_at-span.ensures ∙ e) in
    let B : Becomes S S1 c.args.at (Some (with_counts s (changed_count c.args.change s.tip) s.branch)) =
    subst (λ (x : Span). Becomes S S1 c.args.at (Some (with_counts s (changed_count c.args.change x.tip) x.branch))) own
    (subst (λ n. Becomes S S1 c.args.at (Some (with_counts s n c.span_at-span.result.branch))) c.of.ensures (c.set_counts.ensures.spans s e)) in
    record {
      spans = recounted c.args.registry.now.headers c.requires.ledgers c.args.change v votes now change S S1 (spans c.recount_up.new.nodes) c.args.at s e at T.spans B (c.recount_up.ensures.counts _ B.changed);
      kids = c.recount_up.ensures.kids;
    }

ends : (c : goal.After-recount_up) (a : Name) (s : Span) → spans c.args.nodes.now a ≡ Some s → (t : Span) × (spans c.recount_up.new.nodes a ≡ Some t) × (t.ledger ≡ s.ledger)
ends c =
    let s = c.span_at-span.result in
    let e = c.span_at-span.ensures in
    let B = c.set_counts.ensures.spans s e in
    ends_on c.args.registry.now.headers c.args.change (spans c.args.nodes.now) (spans c.set_counts.new.nodes) (spans c.recount_up.new.nodes) s.ledger (counts_keep (spans c.args.nodes.now) (spans c.set_counts.new.nodes) c.args.at s c.of.result s.branch e B) (c.recount_up.ensures.counts _ B.changed)

pub returns-clause-root : goal.returns-clause-root
returns-clause-root c = λ root r. let t = ends c root r.0 r.1 in (t.0, t.1, t.2 ∙ r.2)

pub returns-clause-there : goal.returns-clause-there
returns-clause-there c = ends c c.args.at
