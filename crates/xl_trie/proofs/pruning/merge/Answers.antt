-- parent, node and child end at different depths, so they differ, and a lone child can take the node's place
use Rattle.std.proofs.Common.{◌≡◌, ◌≢◌, not, List, length, Option, Some, None, IsSome, sym, ap, subst, ◌∙◌, arith, inl, inr}
use Rattle.xl_trie.proofs.Common.{Header, Vote, AreLedgers, Slot, get, Name, Node, Span, span_of, spans, IsKid, IsNeeded, IsTrieBut, way}
use Rattle.xl_trie.proofs.Leaving.{merged, merged_root, all_needed}
use Rattle.xl_trie.proofs.Listing.{some_is, none_some, none_of, some_of, is_some_if}
use Rattle.xl_trie.proofs.Siblings.{no_kids, first_kid}
use Rattle.xl_trie.proofs.Trees.{hung, over_of, kid_differs}
use Rattle.xl_trie.proofs.pruning.merge.Goals.{else-node-eq0-via-then-node-eq0+else-is_none, else-node-eq0-via-else-node-eq0}
use Rattle.xl_trie.proofs.pruning.merge.Goals as goal

-- a node is needed if this is true of the one at its name
need_of : (S : Name → Option Span) (a : Name) (s : Span) → S a ≡ Some s → IsNeeded S a s → (t : Span) → S a ≡ Some t → IsNeeded S a t
need_of S a s e need t f = subst (IsNeeded S a) (some_is s t (sym e ∙ f)) need

-- a node with its parent and its first child: the three differ
record Between (nodes : List (Slot Node)) (over name kid : Name) (n m : Node) : Type 0 where
  pub there : get nodes kid ≡ Some m
  pub up : IsKid (spans nodes) over name n.span
  pub low : IsKid (spans nodes) name kid m.span
  pub stands : IsSome (spans nodes over)
  pub over_name : over ≢ name
  pub name_kid : name ≢ kid
  pub over_kid : over ≢ kid
  pub lone : m.sibling ≡ None → (b : Name) (u : Span) → IsKid (spans nodes) name b u → b ≡ kid
  pub next : (d : Name) → m.sibling ≡ Some d → (kid ≢ d) × ((o : Node) × (get nodes d ≡ Some o) × (o.span.parent ≡ Some name))

between : (hs : List Header) (ok : AreLedgers hs) (votes : List Vote) (nodes : List (Slot Node)) (over name kid : Name) (n : Node) → IsTrieBut hs votes nodes (Some name) → get nodes name ≡ Some n → n.span.parent ≡ Some over → n.child ≡ Some kid → (m : Node) × Between nodes over name kid n m
between hs ok votes nodes over name kid n T e parent child =
    let L = T.spans.linked in
    let k = first_kid nodes name kid n (T.kids name n e) child in
    let up : IsKid (spans nodes) over name n.span = (ap span_of e, parent) in
    let low : IsKid (spans nodes) name kid k.0.span = (ap span_of k.1, k.2) in
    let o = over_of hs ok (spans nodes) L over name n.span up in
    let h = hung hs ok (spans nodes) L over name o.0 n.span o.1 up in
    let g = hung hs ok (spans nodes) L name kid n.span k.0.span up.0 low in (
      k.0,
      record {
        there = k.1;
        up = up;
        low = low;
        stands = is_some_if (spans nodes over) o.0 o.1;
        over_name = kid_differs hs ok (spans nodes) L over name o.0 n.span o.1 up;
        name_kid = kid_differs hs ok (spans nodes) L name kid n.span k.0.span up.0 low;
        over_kid = λ same. omega (arith, h.above, g.above, ap (λ (x : Span). length (way hs x.ledger)) (some_is o.0 k.0.span (sym o.1 ∙ ap (spans nodes) same ∙ low.0)));
        lone = k.3;
        next = k.4;
      },
    )

pub returns-in_default-clause-trie : goal.returns-in_default-clause-trie
returns-in_default-clause-trie c = λ hs votes ok T.
    let s = c.node_at-node.result.span in
    let e = c.node_at-node.ensures.span in
    record {
      spans = all_needed hs votes (spans c.args.nodes.now) c.args.name T.spans (need_of (spans c.args.nodes.now) c.args.name s e (inl (elim (T.spans.linked.hangs c.args.name s e) [ inl root ↦ root.1 | inr h ↦ absurd (none_some h.name (sym c.in_default.is ∙ h.is)) ])));
      kids = T.kids;
    }

pub returns-in_default-child-clause-trie : goal.returns-in_default-child-clause-trie
returns-in_default-child-clause-trie c = λ hs votes ok T.
    let n = c.node_at-node.result in
    let half = c.requires.half in
    record {
      spans = all_needed hs votes (spans c.args.nodes.now) c.args.name T.spans (need_of (spans c.args.nodes.now) c.args.name half.0 half.1 (elim half.2 [ inl need ↦ need | inr kid ↦ absurd (no_kids c.args.nodes.now c.args.name kid.0 n kid.1 (T.kids c.args.name n c.node_at-node.ensures.node) c.in_default-child.is kid.2) ]));
      kids = T.kids;
    }

pub node_at-requires : goal.node_at-requires
node_at-requires c = let I = c.requires.trie in let f = between I.0 I.1 I.2.0 c.args.nodes.now c.in-Some.over c.args.name c.in-Some-child.kid c.node_at-node.result I.2.1 c.node_at-node.ensures.node c.in-Some.is c.in-Some-child.is in is_some_if _ f.0.span f.1.low.0

pub lift-requires-clause-of : goal.lift-requires-clause-of
lift-requires-clause-of c = let I = c.requires.trie in let f = between I.0 I.1 I.2.0 c.args.nodes.now c.in-Some.over c.args.name c.in-Some-child.kid c.node_at-node.result I.2.1 c.node_at-node.ensures.node c.in-Some.is c.in-Some-child.is in f.1.stands

pub lift-requires-clause-kid : goal.lift-requires-clause-kid
lift-requires-clause-kid c = let I = c.requires.trie in let f = between I.0 I.1 I.2.0 c.args.nodes.now c.in-Some.over c.args.name c.in-Some-child.kid c.node_at-node.result I.2.1 c.node_at-node.ensures.node c.in-Some.is c.in-Some-child.is in (f.0.span, f.1.low)

pub lift-requires-clause-other : goal.lift-requires-clause-other
lift-requires-clause-other c = let I = c.requires.trie in let f = between I.0 I.1 I.2.0 c.args.nodes.now c.in-Some.over c.args.name c.in-Some-child.kid c.node_at-node.result I.2.1 c.node_at-node.ensures.node c.in-Some.is c.in-Some-child.is in f.1.over_name

pub lift-requires-clause-apart : goal.lift-requires-clause-apart
lift-requires-clause-apart c = let I = c.requires.trie in let f = between I.0 I.1 I.2.0 c.args.nodes.now c.in-Some.over c.args.name c.in-Some-child.kid c.node_at-node.result I.2.1 c.node_at-node.ensures.node c.in-Some.is c.in-Some-child.is in f.1.name_kid

pub lift-requires-clause-below : goal.lift-requires-clause-below
lift-requires-clause-below c = let I = c.requires.trie in let f = between I.0 I.1 I.2.0 c.args.nodes.now c.in-Some.over c.args.name c.in-Some-child.kid c.node_at-node.result I.2.1 c.node_at-node.ensures.node c.in-Some.is c.in-Some-child.is in f.1.over_kid

pub returns-then-is_none-clause-trie : goal.returns-then-is_none-clause-trie
returns-then-is_none-clause-trie c = λ hs votes ok T.
    let f = between hs ok votes c.args.nodes.now c.in-Some.over c.args.name c.in-Some-child.kid c.node_at-node.result T c.node_at-node.ensures.node c.in-Some.is c.in-Some-child.is in
    let own = some_is c.node_at.result f.0 (sym c.node_at.ensures.node ∙ f.1.there) in
    let last = ap (λ (x : Node). x.sibling) (sym own) ∙ none_of c.node_at.result.sibling (c.is_none.ensures ∙ ap not c.if-is_none.true) in
    record {
      spans = merged hs ok votes (spans c.args.nodes.now) (spans c.lift.new.nodes) c.in-Some.over c.args.name T.spans c.node_at-node.result.span f.1.up (omega (arith, c.if-node-eq0.true)) c.in-Some-child.kid f.0.span f.1.low (f.1.lone last) (c.lift.ensures.merged c.node_at-node.result.span f.0.span f.1.up f.1.low);
      kids = c.lift.ensures.kids;
    }

pub returns-then-is_none-clause-root : goal.returns-then-is_none-clause-root
returns-then-is_none-clause-root c =
    let I = c.requires.trie in
    let f = between I.0 I.1 I.2.0 c.args.nodes.now c.in-Some.over c.args.name c.in-Some-child.kid c.node_at-node.result I.2.1 c.node_at-node.ensures.node c.in-Some.is c.in-Some-child.is in
    let own = some_is c.node_at.result f.0 (sym c.node_at.ensures.node ∙ f.1.there) in
    let last = ap (λ (x : Node). x.sibling) (sym own) ∙ none_of c.node_at.result.sibling (c.is_none.ensures ∙ ap not c.if-is_none.true) in
    merged_root I.0 I.1 I.2.0 (spans c.args.nodes.now) (spans c.lift.new.nodes) c.in-Some.over c.args.name I.2.1.spans c.node_at-node.result.span f.1.up (omega (arith, c.if-node-eq0.true)) c.in-Some-child.kid f.0.span f.1.low (f.1.lone last) (c.lift.ensures.merged c.node_at-node.result.span f.0.span f.1.up f.1.low)

pub returns-else-node-eq0-clause-trie : goal.returns-else-node-eq0-clause-trie
returns-else-node-eq0-clause-trie c = λ hs votes ok T.
    let n = c.node_at-node.result in
    let f = between hs ok votes c.args.nodes.now c.in-Some.over c.args.name c.in-Some-child.kid n T c.node_at-node.ensures.node c.in-Some.is c.in-Some-child.is in
    record {
      spans = all_needed hs votes (spans c.args.nodes.now) c.args.name T.spans (need_of (spans c.args.nodes.now) c.args.name n.span c.node_at-node.ensures.span (inr (elim c.else-node-eq0.branch [
        | else-node-eq0-via-then-node-eq0+else-is_none w ↦
            let own = some_is w.node_at.result f.0 (sym w.node_at.ensures.node ∙ f.1.there) in
            let d = some_of w.node_at.result.sibling (w.is_none.ensures ∙ ap not w.if-is_none.false) in
            let o = f.1.next d.0 (ap (λ (x : Node). x.sibling) (sym own) ∙ d.1) in
            inr (c.in-Some-child.kid, d.0, f.0.span, o.1.0.span, f.1.low, (ap span_of o.1.1, o.1.2), o.0)
        | else-node-eq0-via-else-node-eq0 w ↦ inl (omega (arith, w.if-node-eq0.false))
      ])));
      kids = T.kids;
    }
