-- The order of spans, and which child leads.
use Rattle.std.proofs.Common.{arith, ◌≡◌, ◌≢◌, true, false, List, ◌∷◌, Option, Some, None, sym, ap, ◌∙◌}
use Rattle.xl_trie.proofs.Common.{Ordering, Less, Equal, Greater, nat_cmp, ordering_then, ordering_reverse, is_gt, IsTotalOrder, upto, nat_cmp_total, nat_list_cmp_total, on_total, then_total, Header, id_at, id_rank, Name, Span, IsKid, leads, IsBestSoFar}
use Rattle.xl_trie.proofs.Listing.{some_is, true_false, false_if}

back : (r s : Ordering) → s ≡ ordering_reverse r → is_gt r ≡ true → is_gt s ≡ false
back Less s e gt = absurd cc
back Equal s e gt = absurd cc
back Greater s e gt = ap is_gt e

module _ (hs : List Header) where
  order : IsTotalOrder (λ (a b : Span). ordering_then (nat_cmp a.branch b.branch) (id_rank hs a.first b.first))
  order = then_total (on_total (λ (n : Span). n.branch) nat_cmp_total) (on_total (λ (n : Span). (id_at hs n.first).0) nat_list_cmp_total)

  pub lead_back : (a b : Span) → leads hs a b ≡ true → leads hs b a ≡ false
  lead_back a b h = back (ordering_then (nat_cmp a.branch b.branch) (id_rank hs a.first b.first)) (ordering_then (nat_cmp b.branch a.branch) (id_rank hs b.first a.first)) (order.antisymm b a) h

  pub lead_self : (a : Span) → leads hs a a ≡ false
  lead_self a = false_if (leads hs a a) (λ t. true_false (leads hs a a) t (lead_back a a t))

  -- whom no one leads is led by no one behind
  pub lead_through : (a b c : Span) → leads hs a b ≡ false → leads hs c b ≡ true → leads hs a c ≡ false
  lead_through a b c p q = upto order a b c p (lead_back c b q)

  module _ (S : Name → Option Span) (out : Option Name) (a : Name) (rest : List Name) where
    -- the first that is looked at
    pub best_first : (best : Option Name) (name : Name) (n : Span) → best ≡ None → out ≢ Some name → IsKid S a name n → IsBestSoFar hs S a out (name ∷ rest) best → IsBestSoFar hs S a out rest (Some name)
    best_first None name n none other kid so = (n, kid, other, λ b m k. grind (arith, so b m k, lead_self n, kid.0, k.0))
    best_first (Some t) name n none other kid so = absurd cc

    -- one that leads the best
    pub best_next : (best : Option Name) (t name : Name) (n m : Span) → best ≡ Some t → S t ≡ Some m → out ≢ Some name → IsKid S a name n → leads hs n m ≡ true → IsBestSoFar hs S a out (name ∷ rest) best → IsBestSoFar hs S a out rest (Some name)
    best_next None t name n m is there other kid lead so = absurd cc
    best_next (Some s) t name n m is there other kid lead so =
        let own : so.0 ≡ m = some_is so.0 m (sym so.1.0 ∙ ap S (some_is s t is) ∙ there) in
        (n, kid, other, λ b k is_kid. grind (arith, so.3 b k is_kid, lead_self n, lead_through k m n, own, kid.0, is_kid.0, lead))
