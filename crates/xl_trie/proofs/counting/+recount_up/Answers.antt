-- the span above ends less deep, and once one span is counted anew, only those above it are left
use Rattle.std.proofs.Common.{◌≢◌, ◌<◌, length, Some, sym, ap, subst, ◌∙◌, arith}
use Rattle.xl_trie.proofs.Common.{Span, AreRecounted, with_counts, spans, IsKid, Becomes, way, OnWay}
use Rattle.xl_trie.proofs.Listing.{some_is, is_some_if}
use Rattle.xl_trie.proofs.Recounting.{depth, counts_keep, linked_on, recounted_top, recounted_on}
use Rattle.xl_trie.proofs.Trees.{on_through, hung, kid_differs, over_of}
use Rattle.xl_trie.proofs.counting.+recount_up.Goals as goal

pub recount_up-requires : goal.recount_up-requires
recount_up-requires t c =
    let hs = c.args.registry.now.headers in
    let S = spans c.args.nodes.now in
    let S1 = spans c.set_counts.new.nodes in
    let ok = c.requires.ledgers in
    let L = c.requires.linked in
    let s = c.span_at-span.result in
    let e = c.span_at-span.ensures in
    let kid : IsKid S c.in-Some.over c.args.at s = (e, c.in-Some.is) in
    let o = over_of hs ok S L c.in-Some.over c.args.at s kid in
    let h = hung hs ok S L c.in-Some.over c.args.at o.0 s o.1 kid in
    let B = c.set_counts.ensures.spans s e in
    let there = B.others c.in-Some.over (kid_differs hs ok S L c.in-Some.over c.args.at o.0 s o.1 kid) ∙ o.1 in
    let falls : depth hs (spans c.set_counts.new.nodes c.in-Some.over) < t = omega (arith, h.above, ap (depth hs) there, ap (depth hs) e, c.decreases) in (
      falls,
      (
        ok,
        (
          linked_on hs S S1 (counts_keep S S1 c.args.at s s.tip c.of.result e B) L,
          (
            c.set_counts.ensures.kids,
            (
              (λ a u w f g on.
                  let own = some_is w o.0 (sym g ∙ there) in
                  let other : a ≢ c.args.at = λ same. omega (arith, on.0, h.above, ap (λ (x : Span). length (way hs x.ledger)) own, ap (λ (x : Span). length (way hs x.ledger)) (some_is u (with_counts s s.tip c.of.result) (sym f ∙ ap S1 same ∙ B.changed))) in
                  c.requires.small a u s (sym (B.others a other) ∙ f) e (on_through hs u.ledger w.ledger s.ledger on (subst (λ (x : Span). OnWay hs x.ledger s.ledger) (sym own) h.on))),
              is_some_if _ o.0 there,
            ),
          ),
        ),
      ),
    )

pub returns-in-Some-clause-counts : goal.returns-in-Some-clause-counts
returns-in-Some-clause-counts t c = λ s e.
    let hs = c.args.registry.now.headers in
    let S = spans c.args.nodes.now in
    let S1 = spans c.set_counts.new.nodes in
    let u = c.span_at-span.result in
    let B = subst (λ n. Becomes S S1 c.args.at (Some (with_counts u u.tip n))) c.of.ensures (c.set_counts.ensures.spans u c.span_at-span.ensures) in
    subst (λ (x : Span). AreRecounted hs S (spans c.recount_up.new.nodes) c.args.change x.ledger) (some_is u s (sym c.span_at-span.ensures ∙ e))
    (recounted_on hs c.requires.ledgers c.args.change S S1 c.requires.linked c.args.at u c.span_at-span.ensures B c.in-Some.over c.in-Some.is (spans c.recount_up.new.nodes) c.recount_up.ensures.counts)

pub returns-in_default-clause-counts : goal.returns-in_default-clause-counts
returns-in_default-clause-counts t c = λ s e.
    let hs = c.args.registry.now.headers in
    let S = spans c.args.nodes.now in
    let S1 = spans c.set_counts.new.nodes in
    let u = c.span_at-span.result in
    let B = subst (λ n. Becomes S S1 c.args.at (Some (with_counts u u.tip n))) c.of.ensures (c.set_counts.ensures.spans u c.span_at-span.ensures) in
    subst (λ (x : Span). AreRecounted hs S S1 c.args.change x.ledger) (some_is u s (sym c.span_at-span.ensures ∙ e))
    (recounted_top hs c.requires.ledgers c.args.change S S1 c.requires.linked c.args.at u c.span_at-span.ensures B c.in_default.is)
