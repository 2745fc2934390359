-- The order of ids is total.
use Rattle.std.proofs.Common.{◌≡◌, ℕ, Bool, true, false, List, refl, sym, ap, subst, ◌∙◌}
use Rattle.std.specs.Ordering.{nat_cmp, is_lt, ordering_reverse}
use Rattle.std.specs.declared.cmp.Ordering.{Ordering}
use Rattle.std.specs.declared.cmp.Ordering.TheVariants.{Less, Equal, Greater}
use Rattle.std.specs.Cmp.Lexicographic.{slice_cmp}
use Rattle.std.proofs.lemmas.Cmp.{nat_list_cmp_total}
use Rattle.std.proofs.lemmas.Map.Lookups.{exact_bytes}
use Rattle.xl_base.specs.Sets.{is_below}
use Rattle.xl_base.specs.declared.ids.TxId.{TxId}
use Rattle.xl_disputes.specs.Rows.{is_same}
use Rattle.xl_disputes.proofs.Ordered.{tx_decides}

abbrev order : TxId → TxId → Ordering
order a b = slice_cmp nat_cmp a.0 b.0

flipped : (a b : TxId) → order b a ≡ ordering_reverse (order a b)
flipped a b = nat_list_cmp_total.antisymm b.0 a.0

not_both : (o p : Ordering) → p ≡ ordering_reverse o → is_lt o ≡ true → is_lt p ≡ false
not_both Less p is lower = ap is_lt is
not_both Equal p is lower = absurd (cc lower)
not_both Greater p is lower = absurd (cc lower)

pub not_above : (a b : TxId) → is_below a b ≡ true → is_below b a ≡ false
not_above a b below = not_both (order a b) (order b a) (flipped a b) below

is_less : (o : Ordering) → is_lt o ≡ true → o ≡ Less
is_less Less lower = refl
is_less Equal lower = absurd (cc lower)
is_less Greater lower = absurd (cc lower)

pub below_trans : (a b c : TxId) → is_below a b ≡ true → is_below b c ≡ true → is_below a c ≡ true
below_trans a b c ab bc = ap is_lt (nat_list_cmp_total.trans a.0 b.0 c.0 (is_less (order a b) ab) (is_less (order b c) bc))

is_equal : (o p : Ordering) → p ≡ ordering_reverse o → is_lt o ≡ false → is_lt p ≡ false → o ≡ Equal
is_equal Less p is high high' = absurd (cc high)
is_equal Equal p is high high' = refl
is_equal Greater p is high high' = absurd (cc (sym high' ∙ ap is_lt is))

-- of two ids neither of which is below the other, one is the other
pub neither_below : (a b : TxId) → is_below a b ≡ false → is_below b a ≡ false → a ≡ b
neither_below a b high high' =
    let of : List ℕ → TxId = λ bs. record { 0 = bs } in
    ap of (exact_bytes a.0 b.0 (is_equal (order a b) (order b a) (flipped a b) high high'))

not_below_itself : (a : TxId) (r : Bool) → r ≡ is_below a a → r ≡ false
not_below_itself a true is = cc (sym (not_above a a (sym is)), is)
not_below_itself a false is = refl

pub irreflexive : (a : TxId) → is_below a a ≡ false
irreflexive a = not_below_itself a (is_below a a) refl

pub same_itself : (a : TxId) → is_same a a ≡ true
same_itself a = (tx_decides a a).1 refl

pub same_is : (a b : TxId) → is_same a b ≡ true → a ≡ b
same_is a b same = (tx_decides a b).0 same

other : (a b : TxId) (r : Bool) → r ≡ is_same a b → is_below a b ≡ true → r ≡ false
other a b true is below = absurd (cc (below, subst (λ c. is_below a c ≡ false) (same_is a b (sym is)) (irreflexive a)))
other a b false is below = refl

pub below_other : (a b : TxId) → is_below a b ≡ true → is_same a b ≡ false
below_other a b below = other a b (is_same a b) refl below

other' : (a b : TxId) (r : Bool) → r ≡ is_same b a → is_below a b ≡ true → r ≡ false
other' a b true is below = absurd (cc (below, subst (λ c. is_below a c ≡ false) (sym (same_is b a (sym is))) (irreflexive a)))
other' a b false is below = refl

pub above_other : (a b : TxId) → is_below a b ≡ true → is_same b a ≡ false
above_other a b below = other' a b (is_same b a) refl below
