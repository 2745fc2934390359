-- a node stays as the root, or for its votes or children; one with neither can go, and no vote misses it
use Rattle.std.proofs.Common.{◌≡◌, None, sym, ap, ◌∙◌, arith, inl, inr}
use Rattle.xl_trie.proofs.Common.{Span, Name, span_of, spans, IsKid, Becomes}
use Rattle.xl_trie.proofs.Leaving.{dropped, dropped_half, dropped_root}
use Rattle.xl_trie.proofs.Listing.{none_some, none_of, some_of, is_some_if}
use Rattle.xl_trie.proofs.Siblings.{no_kids, first_kid}
use Rattle.xl_trie.proofs.Trees.{over_of, kid_differs}
use Rattle.xl_trie.proofs.pruning.drop_empty.Goals.{then-node-gt0-via-then-node-gt0, then-node-gt0-via-else-node-gt0+then-is_some}
use Rattle.xl_trie.proofs.pruning.drop_empty.Goals as goal

pub returns-in_default-clause-half : goal.returns-in_default-clause-half
returns-in_default-clause-half c =
    let V = c.requires.trie.2.1.spans in
    let s = c.node_at-node.result.span in
    (s, c.node_at-node.ensures.span, inl (inl (elim (V.linked.hangs c.args.name s c.node_at-node.ensures.span) [ inl root ↦ root.1 | inr h ↦ absurd (none_some h.name (sym c.in_default.is ∙ h.is)) ])))

pub returns-then-node-gt0-clause-half : goal.returns-then-node-gt0-clause-half
returns-then-node-gt0-clause-half c =
    let n = c.node_at-node.result in (
      n.span,
      c.node_at-node.ensures.span,
      elim c.then-node-gt0.branch [
        | then-node-gt0-via-then-node-gt0 w ↦ inl (inr (inl w.if-node-gt0.true))
        | then-node-gt0-via-else-node-gt0+then-is_some w ↦
            let k = some_of n.child (sym w.is_some.ensures ∙ w.if-is_some.true) in
            let m = first_kid c.args.nodes.now c.args.name k.0 n (c.requires.trie.2.1.kids c.args.name n c.node_at-node.ensures.node) k.1 in
            inr (k.0, m.0.span, (ap span_of m.1, m.2))
      ],
    )

pub unhang-requires-clause-of : goal.unhang-requires-clause-of
unhang-requires-clause-of c =
    let T = c.requires.trie in
    let o = over_of T.0 T.1 (spans c.args.nodes.now) T.2.1.spans.linked c.in-Some.over c.args.name c.node_at-node.result.span (c.node_at-node.ensures.span, c.in-Some.is) in
    is_some_if _ o.0 o.1

pub unhang-requires-clause-other : goal.unhang-requires-clause-other
unhang-requires-clause-other c =
    let T = c.requires.trie in
    let kid : IsKid (spans c.args.nodes.now) c.in-Some.over c.args.name c.node_at-node.result.span = (c.node_at-node.ensures.span, c.in-Some.is) in
    let o = over_of T.0 T.1 (spans c.args.nodes.now) T.2.1.spans.linked c.in-Some.over c.args.name c.node_at-node.result.span kid in
    kid_differs T.0 T.1 (spans c.args.nodes.now) T.2.1.spans.linked c.in-Some.over c.args.name o.0 c.node_at-node.result.span o.1 kid

empty : (c : goal.After-give) → c.node_at-node.result.span.tip ≡ 0
empty c = omega (arith, c.if-node-gt0.false)

childless : (c : goal.After-give) (b : Name) (u : Span) → IsKid (spans c.args.nodes.now) c.args.name b u → ⊥
childless c b u = no_kids c.args.nodes.now c.args.name b c.node_at-node.result u (c.requires.trie.2.1.kids c.args.name c.node_at-node.result c.node_at-node.ensures.node) (none_of c.node_at-node.result.child (sym c.is_some.ensures ∙ c.if-is_some.false))

goes : (c : goal.After-give) → Becomes (spans c.args.nodes.now) (spans c.give.new.nodes) c.args.name None
goes c = record { changed = c.give.ensures.spans.changed; others = λ b other. c.give.ensures.spans.others b other ∙ (c.unhang.ensures.spans c.node_at-node.result.span c.node_at-node.ensures.span).others b other }

pub returns-clause-trie : goal.returns-clause-trie
returns-clause-trie c = λ hs votes ok T. record {
  spans = dropped hs ok votes (spans c.args.nodes.now) (spans c.give.new.nodes) c.in-Some.over c.args.name T.spans c.node_at-node.result.span (c.node_at-node.ensures.span, c.in-Some.is) (empty c) (childless c) (goes c);
  kids = c.give.ensures.kids;
}

pub returns-clause-half : goal.returns-clause-half
returns-clause-half c = let I = c.requires.trie in dropped_half I.0 I.1 I.2.0 (spans c.args.nodes.now) (spans c.give.new.nodes) c.in-Some.over c.args.name I.2.1.spans c.node_at-node.result.span (c.node_at-node.ensures.span, c.in-Some.is) (empty c) (childless c) (goes c)

pub returns-clause-root : goal.returns-clause-root
returns-clause-root c = let I = c.requires.trie in dropped_root I.0 I.1 I.2.0 (spans c.args.nodes.now) (spans c.give.new.nodes) c.in-Some.over c.args.name I.2.1.spans c.node_at-node.result.span (c.node_at-node.ensures.span, c.in-Some.is) (empty c) (childless c) (goes c)
