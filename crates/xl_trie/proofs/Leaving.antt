-- A span without votes of its own goes: without children, or with one that takes its place.
use Rattle.std.proofs.Common.{◌≡◌, ◌≢◌, ◌⊎◌, ◌==◌, List, Option, Some, None, refl, sym, ap, ◌∙◌, arith, inl, inr}
use Rattle.xl_trie.proofs.Common.{eq-eqb, Header, Vote, AreLedgers, tip_of, branch_of, Slot, Name, Node, Span, IsMerged, In, spans, IsKid, Becomes, hung_at, Hangs, AreLinked, IsNeeded, IsHalfNeeded, AreSpans, IsTrie, IsTrieBut, IsRoot}
use Rattle.xl_trie.proofs.Listing.{some_is, none_some, count_some}
use Rattle.xl_trie.proofs.Relinking.{Other, other_at, relinked}
use Rattle.xl_trie.proofs.Trees.{one_name, on_through, begin_down, root_short, hung, kid_differs, over_of, rehang, needed_on, fork_moved}

module _ (hs : List Header) (ok : AreLedgers hs) (votes : List Vote) (S S' : Name → Option Span) (a c : Name) (V : AreSpans hs votes S (Some c)) (s : Span) (kid : IsKid S a c s) (empty : s.tip ≡ 0) where
  -- no vote is for it, and it isn't the root
  pub votes_off : (v : Vote) → In v votes → (b : Name) (u : Span) → S b ≡ Some u → u.ledger ≡ v.ledger → b ≢ c
  votes_off v i b u e is same =
      let own : u ≡ s = some_is u s (sym e ∙ ap S same ∙ kid.0) in
      let some = count_some (λ (w : Vote). w.ledger == s.ledger) votes v i (eq-eqb v.ledger s.ledger (sym is ∙ ap (λ (x : Span). x.ledger) own)) in
      omega (arith, some, empty, V.counted.tip c s kid.0)

  pub root_off : (root : Name) → IsRoot S root → root ≢ c
  root_off root r same =
      let o = over_of hs ok S V.linked a c s kid in
      let h = hung hs ok S V.linked a c o.0 s o.1 kid in
      omega (arith, h.above, root_short hs ok s.ledger (ap (λ (x : Span). x.ledger) (some_is s r.0 (sym kid.0 ∙ ap S (sym same) ∙ r.1)) ∙ r.2))

  -- without children it goes
  module _ (childless : (b : Name) (u : Span) → IsKid S c b u → ⊥) (B : Becomes S S' c None) where
    from : (b : Name) (u : Span) → S' b ≡ Some u → (b ≢ c) × (S b ≡ Some u)
    from b u e = grind (arith, one_name b c, B.changed, B.others b)

    to : (b : Name) (u : Span) → S b ≡ Some u → b ≢ c → S' b ≡ Some u
    to b u e other = B.others b other ∙ e

    dropped_linked : AreLinked hs S'
    dropped_linked = relinked hs S S' V.linked (λ b u e. inl (record { span = u; there = (from b u e).1; ledger = refl; first = refl; parent = refl }))
        (λ b u e k h. (h.over, to h.name h.over h.there (λ same. childless b k.span (k.there, h.is ∙ ap Some same)), refl))

    pub dropped : AreSpans hs votes S' (Some a)
    dropped = record {
      known = V.known;
      linked = dropped_linked;
      voted = λ v i. let u = V.voted v i in (u.0, u.1, to u.0 u.1 u.2 (votes_off v i u.0 u.1 u.2 u.3), u.3);
      counted = record { tip = λ b u e. V.counted.tip b u (from b u e).1; branch = λ b u e. V.counted.branch b u (from b u e).1 };
      needed = λ b u e but.
          let f = from b u e in
          let off : (d : Name) (w : Span) → IsKid S b d w → d ≢ c = λ d w p same. but (sym kid.1 ∙ ap (λ (x : Span). x.parent) (some_is s w (sym kid.0 ∙ ap S (sym same) ∙ p.0)) ∙ p.1) in
          needed_on S S' b u u (V.needed b u f.1 (λ is. f.0 (sym (some_is c b is)))) refl refl
          (λ k. (k.0, k.1, k.2, k.3, (to k.0 k.2 k.4.0 (off k.0 k.2 k.4), k.4.1), (to k.1 k.3 k.5.0 (off k.1 k.3 k.5), k.5.1), k.6));
    }

    pub dropped_half : IsHalfNeeded S' a
    dropped_half =
        let o = over_of hs ok S V.linked a c s kid in
        let differ = kid_differs hs ok S V.linked a c o.0 s o.1 kid in (
          o.0,
          to a o.0 o.1 differ,
          elim (V.needed a o.0 o.1 (λ is. differ (sym (some_is c a is)))) [
            | inl root ↦ inl (inl root)
            | inr (inl tip) ↦ inl (inr (inl tip))
            | inr (inr k) ↦ elim (one_name k.0 c) [
              | inr other ↦ inr (k.0, k.2, (to k.0 k.2 k.4.0 other, k.4.1))
              | inl same ↦ inr (k.1, k.3, (to k.1 k.3 k.5.0 (λ is. k.6 (same ∙ sym is)), k.5.1))
            ]
          ],
        )

    pub dropped_root : (root : Name) → IsRoot S root → IsRoot S' root
    dropped_root root r = (r.0, to root r.0 r.1 (root_off root r), r.2)

  -- its one child takes its place
  module _ (k : Name) (t : Span) (low : IsKid S c k t) (lone : (b : Name) (u : Span) → IsKid S c b u → b ≡ k) (I : IsMerged S S' a c k s t) where
    rest : Span
    rest = hung_at t (Some a) s.first

    off_k : (b d : Name) (u : Span) → b ≢ c → IsKid S b d u → d ≢ k
    off_k b d u other p same = other (some_is b c (sym p.1 ∙ ap (λ (x : Span). x.parent) (some_is u t (sym p.0 ∙ ap S same ∙ low.0)) ∙ low.1))

    -- a span was there before, and only that of k is another
    record Was (b : Name) (u : Span) : Type 0 where
      pub other : b ≢ c
      pub span : Span
      pub there : S b ≡ Some span
      pub ledger : u.ledger ≡ span.ledger
      pub tip : span.tip ≡ u.tip
      pub branch : u.branch ≡ span.branch
      pub is : ((b ≡ k) × (u ≡ hung_at t (Some a) s.first)) ⊎ ((b ≢ k) × (u ≡ span))

    was : (b : Name) (u : Span) → S' b ≡ Some u → Was b u
    was b u e = grind (arith, one_name b c, one_name b k, I.gone, I.rest, I.others b, low.0)

    to_new : (b : Name) (u : Span) → S b ≡ Some u → b ≢ c → (w : Span) × (S' b ≡ Some w) × (u.ledger ≡ w.ledger)
    to_new b u e other = grind (arith, one_name b k, I.rest, I.others b, low.0)

    -- what the child hangs at
    rest_hangs : Hangs hs S' (hung_at t (Some a) s.first)
    rest_hangs =
        let o = over_of hs ok S V.linked a c s kid in
        let h = hung hs ok S V.linked a c o.0 s o.1 kid in
        let g = hung hs ok S V.linked c k s t kid.0 low in
        let n = to_new a o.0 o.1 (kid_differs hs ok S V.linked a c o.0 s o.1 kid) in
        rehang hs S S' (hung_at t (Some a) s.first) (record { name = a; over = o.0; is = refl; there = o.1; above = omega (arith, h.above, g.above); on = on_through hs o.0.ledger s.ledger t.ledger h.on g.on; first = begin_down hs s.ledger t.ledger o.0.ledger s.first g.on h.above h.first }) n.0 n.1 n.2

    merged_linked : AreLinked hs S'
    merged_linked = relinked hs S S' V.linked
        (λ b u e. let w = was b u e in elim w.is [
          | inl i ↦ inr (other_at hs S S' k b (hung_at t (Some a) s.first) u i.0 i.1 other_rest)
          | inr i ↦ inl (record { span = u; there = w.there ∙ ap Some (sym i.1); ledger = refl; first = refl; parent = refl })
        ])
        (λ b u e p h. to_new h.name h.over h.there (λ same. elim (was b u e).is [
          | inl i ↦ a_not_c (some_is a c (ap (λ (x : Span). x.parent) (sym i.1) ∙ sym p.parent ∙ h.is ∙ ap Some same))
          | inr i ↦ i.0 (lone b p.span (p.there, h.is ∙ ap Some same))
        ]))
      where
        a_not_c : a ≢ c
        a_not_c = let o = over_of hs ok S V.linked a c s kid in kid_differs hs ok S V.linked a c o.0 s o.1 kid

        other_rest : Other hs S S' k (hung_at t (Some a) s.first)
        other_rest = record {
          known = V.linked.known k t low.0;
          first = V.linked.first c s kid.0;
          hangs = rest_hangs;
          one = λ d w g same. let n = was d w g in V.linked.one d k n.span t n.there low.0 (sym n.ledger ∙ same);
          apart = λ b d w p q same. grind (arith, was d w q.0, V.linked.apart a d c w s, kid, p.1, q.1, same);
        }

    pub merged : AreSpans hs votes S' None
    merged = record {
      known = V.known;
      linked = merged_linked;
      voted = λ v i. let u = V.voted v i in let w = to_new u.0 u.1 u.2 (votes_off v i u.0 u.1 u.2 u.3) in (u.0, w.0, w.1, sym w.2 ∙ u.3);
      counted = record {
        tip = λ b u e. let w = was b u e in sym w.tip ∙ V.counted.tip b w.span w.there ∙ ap (tip_of votes) (sym w.ledger);
        branch = λ b u e. let w = was b u e in w.branch ∙ V.counted.branch b w.span w.there ∙ ap (branch_of hs votes) (sym w.ledger);
      };
      needed = λ b u e but.
          let w = was b u e in
          needed_on S S' b w.span u (V.needed b w.span w.there (λ is. w.other (sym (some_is c b is)))) (sym w.ledger) w.tip
          (fork_moved S S' b c k (λ p q. off_k b k p w.other q refl) (λ d p q. (
            (λ other. (p, (I.others d other (off_k b d p w.other q) ∙ q.0, q.1))),
            (λ same. (hung_at t (Some a) s.first, (I.rest, sym kid.1 ∙ ap (λ (x : Span). x.parent) (some_is s p (sym kid.0 ∙ ap S (sym same) ∙ q.0)) ∙ q.1))),
          )));
    }

    pub merged_root : (root : Name) → IsRoot S root → IsRoot S' root
    merged_root root r = let w = to_new root r.0 r.1 (root_off root r) in (w.0, w.1, sym w.2 ∙ r.2)

-- where the one that isn't known to be needed is needed, all are
pub all_needed : (hs : List Header) (votes : List Vote) (S : Name → Option Span) (c : Name) (V : AreSpans hs votes S (Some c)) → ((s : Span) → S c ≡ Some s → IsNeeded S c s) → AreSpans hs votes S None
all_needed hs votes S c V need = record {
  known = V.known;
  linked = V.linked;
  voted = V.voted;
  counted = V.counted;
  needed = λ b u e _. grind (arith, one_name c b, need u, V.needed b u e);
}

-- more may be needed than is said
less_needed : (hs : List Header) (votes : List Vote) (S : Name → Option Span) (c : Name) → AreSpans hs votes S None → AreSpans hs votes S (Some c)
less_needed hs votes S c V = record { known = V.known; linked = V.linked; voted = V.voted; counted = V.counted; needed = λ b u e _. V.needed b u e (λ none. none_some b none) }

pub less_known : (hs : List Header) (votes : List Vote) (nodes : List (Slot Node)) (c : Name) → IsTrie hs votes nodes → IsTrieBut hs votes nodes (Some c)
less_known hs votes nodes c T = record { spans = less_needed hs votes (spans nodes) c T.spans; kids = T.kids }
