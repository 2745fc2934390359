-- A span comes: as a leaf, or as the front of one that is split.
use Rattle.std.proofs.Common.{◌≡◌, ◌≢◌, ◌⊎◌, ℕ, ◌<◌, List, length, Option, Some, None, refl, sym, ap, subst, ◌∙◌, arith, inl, inr}
use Rattle.xl_trie.proofs.Common.{Header, Vote, AreLedgers, Name, Span, leaf_of, Becomes, IsKid, IsPlace, AreLinked, HasFork, IsNeeded, IsHalfNeeded, AreSpans, way, OnWay, IsBegin}
use Rattle.xl_trie.proofs.Listing.{some_is, none_some}
use Rattle.xl_trie.proofs.Placing.{below, tip_none, branch_none}
use Rattle.xl_trie.proofs.Relinking.{Other, other_at, relinked}
use Rattle.xl_trie.proofs.Trees.{one_name, on_self, needed_on}

-- what a name had before
pub came : (old new : Name → Option Span) (d : Name) (v : Span) → Becomes old new d (Some v) → (b : Name) (u : Span) → new b ≡ Some u → ((b ≡ d) × (u ≡ v)) ⊎ ((b ≢ d) × (old b ≡ Some u))
came old new d v B b u e = grind (arith, one_name b d, B.changed, B.others b)

module _ (hs : List Header) (ok : AreLedgers hs) (votes : List Vote) (S S' : Name → Option Span) (a d : Name) (V : AreSpans hs votes S (Some a)) (l f : ℕ) (kl : l < length hs) (kf : f < length hs) (P : IsPlace hs S l (record { at = a; within = None })) (other : P.span.ledger ≢ l) (first : IsBegin hs l P.span.ledger f) (fresh : S d ≡ None) (B : Becomes S S' d (Some (leaf_of a l f))) where
  lower : length (way hs P.span.ledger) < length (way hs l)
  lower = below hs ok S votes (Some a) V l kl (record { at = a; within = None }) P other

  off : (b : Name) (u : Span) → S b ≡ Some u → b ≢ d
  off b u e same = none_some u (sym fresh ∙ ap S (sym same) ∙ e)

  to : (b : Name) (u : Span) → S b ≡ Some u → S' b ≡ Some u
  to b u e = B.others b (off b u e) ∙ e

  -- no span ends there yet
  new : (b : Name) (u : Span) → S b ≡ Some u → u.ledger ≡ l → ⊥
  new b u e same = let le = P.deepest b u e (subst (OnWay hs u.ledger) same (on_self hs u.ledger)) in omega (arith, le, lower, ap (λ x. length (way hs x)) same)

  pub leaf_linked : AreLinked hs S'
  leaf_linked = relinked hs S S' V.linked
      (λ b u e. elim (came S S' d (leaf_of a l f) B b u e) [ inl h ↦ inr (other_at hs S S' d b (leaf_of a l f) u h.0 h.1 leaf) | inr h ↦ inl (record { span = u; there = h.1; ledger = refl; first = refl; parent = refl }) ])
      (λ b u e k h. (h.over, to h.name h.over h.there, refl))
    where
      leaf : Other hs S S' d (leaf_of a l f)
      leaf = record {
        known = kl;
        first = kf;
        hangs = record { name = a; over = P.span; is = refl; there = to a P.span P.there; above = lower; on = P.on; first = first };
        one = λ c w g same. elim (came S S' d (leaf_of a l f) B c w g) [ inl i ↦ i.0 | inr i ↦ absurd (new c w i.1 same) ];
        apart = λ b c w p q same. grind (arith, came S S' d (leaf_of a l f) B c w q.0, λ (kid : IsKid S a c w). P.enters c w kid (lower, ap (way hs) same ∙ first), p.1, q.1);
      }

  fork_to : (b : Name) → HasFork S b → HasFork S' b
  fork_to b k = (k.0, k.1, k.2, k.3, (to k.0 k.2 k.4.0, k.4.1), (to k.1 k.3 k.5.0, k.5.1), k.6)

  pub leaf_spans : IsHalfNeeded S a → AreSpans hs votes S' (Some d)
  leaf_spans half = record {
    known = V.known;
    linked = leaf_linked;
    voted = λ v i. let u = V.voted v i in (u.0, u.1, to u.0 u.1 u.2, u.3);
    counted = record {
      tip = λ b u e. grind (arith, came S S' d (leaf_of a l f) B b u e, tip_none hs ok S votes (Some a) V l kl (record { at = a; within = None }) P other, V.counted.tip b u);
      branch = λ b u e. grind (arith, came S S' d (leaf_of a l f) B b u e, branch_none hs ok S votes (Some a) V l kl (record { at = a; within = None }) P other refl, V.counted.branch b u);
    };
    needed = λ b u e but. elim (came S S' d (leaf_of a l f) B b u e) [
      | inl h ↦ absurd (but (ap Some (sym h.0)))
      | inr h ↦ elim (one_name b a) [
        | inr differs ↦ needed_on S S' b u u (V.needed b u h.1 (λ is. differs (sym (some_is a b is)))) refl refl (fork_to b)
        | inl same ↦
            let own : half.0 ≡ u = some_is half.0 u (sym half.1 ∙ ap S (sym same) ∙ h.1) in
            elim half.2 [
              | inl need ↦ needed_on S S' b half.0 u (subst (λ (x : Name). IsNeeded S x half.0) (sym same) need) (ap (λ (x : Span). x.ledger) own) (ap (λ (x : Span). x.tip) own) (fork_to b)
              | inr kid ↦ inr (inr (kid.0, d, kid.1, leaf_of a l f, (to kid.0 kid.1 kid.2.0, kid.2.1 ∙ ap Some (sym same)), (B.changed, ap Some (sym same)), off kid.0 kid.1 kid.2.0))
            ]
      ]
    ];
  }
