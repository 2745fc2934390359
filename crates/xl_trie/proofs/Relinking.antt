-- Spans that are as they were, and others that are linked, are linked together.
use Rattle.std.proofs.Common.{arith, ◌≡◌, ◌⊎◌, ◌+◌, ◌<◌, List, length, take, Option, Some, sym, ap, subst, ◌∙◌, inl, inr}
use Rattle.xl_trie.proofs.Common.{Header, Name, Span, IsKid, Hangs, AreLinked, way, OnWay}
use Rattle.xl_trie.proofs.Trees.{rehang}

module _ (hs : List Header) (S S' : Name → Option Span) where
  -- a span that ends, begins and hangs as before
  pub record Kept (b : Name) (u : Span) : Type 0 where
    pub span : Span
    pub there : S b ≡ Some span
    pub ledger : span.ledger ≡ u.ledger
    pub first : span.first ≡ u.first
    pub parent : span.parent ≡ u.parent

  -- another one, and what is to be known of it
  pub record Other (b : Name) (u : Span) : Type 0 where
    pub known : u.ledger < length hs
    pub first : u.first < length hs
    pub hangs : Hangs hs S' u
    pub one : (c : Name) (w : Span) → S' c ≡ Some w → w.ledger ≡ u.ledger → c ≡ b
    pub apart : (a c : Name) (w : Span) → IsKid S' a b u → IsKid S' a c w → w.first ≡ u.first → c ≡ b

  pub other_at : (b c : Name) (u w : Span) → c ≡ b → w ≡ u → Other b u → Other c w
  other_at b c u w same is n = subst (λ (x : Name). Other x w) (sym same) (subst (Other b) (sym is) n)

  pub relinked : AreLinked hs S → ((b : Name) (u : Span) → S' b ≡ Some u → Kept b u ⊎ Other b u)
      → ((b : Name) (u : Span) → S' b ≡ Some u → (k : Kept b u) → (h : Hangs hs S k.span) → (o : Span) × (S' h.name ≡ Some o) × (h.over.ledger ≡ o.ledger)) → AreLinked hs S'
  relinked L was over = record {
    known = λ b u e. elim (was b u e) [ inl k ↦ subst (λ x. x < length hs) k.ledger (L.known b k.span k.there) | inr n ↦ n.known ];
    first = λ b u e. elim (was b u e) [ inl k ↦ subst (λ x. x < length hs) k.first (L.first b k.span k.there) | inr n ↦ n.first ];
    one = λ b c u w e g same. grind (arith, was b u e, was c w g, L.one);
    hangs = λ b u e. elim (was b u e) [
      | inr n ↦ inr n.hangs
      | inl k ↦ elim (L.hangs b k.span k.there) [
        | inl root ↦ inl (sym k.parent ∙ root.0, sym k.ledger ∙ root.1)
        | inr h ↦
            let o = over b u e k h in
            let g = rehang hs S S' k.span h o.0 o.1 o.2 in
            inr (record { name = g.name; over = g.over; is = sym k.parent ∙ g.is; there = g.there; above = subst (λ x. length (way hs g.over.ledger) < length (way hs x)) k.ledger g.above; on = subst (OnWay hs g.over.ledger) k.ledger g.on; first = ap (way hs) (sym k.first) ∙ g.first ∙ ap (λ x. take (length (way hs g.over.ledger) + 1) (way hs x)) k.ledger })
      ]
    ];
    apart = λ a b c u w p q same. elim (was b u p.0) [
      | inr n ↦ sym (n.apart a c w p q (sym same))
      | inl k ↦ elim (was c w q.0) [
        | inr m ↦ m.apart a b u q p same
        | inl j ↦ L.apart a b c k.span j.span (k.there, k.parent ∙ p.1) (j.there, j.parent ∙ q.1) (k.first ∙ same ∙ sym j.first)
      ]
    ];
  }
