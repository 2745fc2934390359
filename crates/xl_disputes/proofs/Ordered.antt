-- The order of ids, as code tests it.
use Rattle.std.proofs.Common.{◌≡◌, ℕ, List, [], ◌∷◌, Some, refl, sym, ap, ◌∙◌}
use Rattle.std.specs.Ordering.{nat_cmp, is_lt, is_some_and, partial_ordering_then, ordering_then}
use Rattle.std.specs.declared.cmp.Ordering.{Ordering}
use Rattle.std.specs.declared.cmp.Ordering.TheVariants.{Less, Equal, Greater}
use Rattle.std.specs.Cmp.Lexicographic.{slice_cmp, slice_partial_cmp, pointwise}
use Rattle.std.specs.Prelude.{◌↔◌, ◌≢◌, Bool, true, false, not, IsTrue, IsFalse, Decides}
use Rattle.std.specs.Str.{bytes_eq}
use Rattle.std.proofs.lemmas.Slice.Eq.{bytes_eq-Decides, slice_eq-Decides}
use Rattle.xl_base.specs.Sets.{comes_before}
use Rattle.xl_base.specs.declared.ids.TxId.{TxId}

then_is : (o p : Ordering) → partial_ordering_then (Some o) (Some p) ≡ Some (ordering_then o p)
then_is Less p = refl
then_is Equal p = refl
then_is Greater p = refl

partial_is : (xs ys : List ℕ) → slice_partial_cmp (λ x y. Some (nat_cmp x y)) xs ys ≡ Some (slice_cmp nat_cmp xs ys)
partial_is [] [] = refl
partial_is [] (y ∷ ys) = refl
partial_is (x ∷ xs) [] = refl
partial_is (x ∷ xs) (y ∷ ys) = ap (partial_ordering_then (Some (nat_cmp x y))) (partial_is xs ys) ∙ then_is (nat_cmp x y) (slice_cmp nat_cmp xs ys)

pub before_is : (xs ys : List ℕ) → is_some_and is_lt (slice_partial_cmp (λ x y. Some (nat_cmp x y)) xs ys) ≡ comes_before xs ys
before_is xs ys = ap (is_some_and is_lt) (partial_is xs ys)

-- whether two ids are the same one
pub tx_decides : (a b : TxId) → Decides (bytes_eq a.0 b.0) (a ≡ b)
tx_decides a b =
    let bytes = bytes_eq-Decides a.0 b.0 in
    let of : List ℕ → TxId = λ bs. record { 0 = bs } in
    ((λ same. ap of (bytes.0 same)), (λ same. bytes.1 (ap (λ (t : TxId). t.0) same)))

test_of : (next own : List TxId) (r same : Bool) → r ≡ not same → Decides same (next ≡ own) → (IsTrue r ↔ (next ≢ own)) × (IsFalse r ↔ (next ≡ own))
test_of next own r true is d = (((λ yes. absurd (cc (is, yes))), (λ no. absurd (no (d.0 refl)))), ((λ _. d.0 refl), (λ _. is)))
test_of next own r false is d = (((λ _ e. absurd (cc (d.1 e))), (λ _. is)), ((λ no. absurd (cc (is, no))), (λ e. absurd (cc (d.1 e)))))

-- what the code's `!=` says of two lists of ids
pub differ : (next own shown shown' : List TxId) (r : Bool) → shown ≡ next → shown' ≡ own → r ≡ not (pointwise (λ a b. bytes_eq a.0 b.0) shown shown') →
    (IsTrue r ↔ (next ≢ own)) × (IsFalse r ↔ (next ≡ own))
differ next own shown shown' r new old is =
    test_of next own r (pointwise (λ a b. bytes_eq a.0 b.0) next own)
    (is ∙ ap (λ xs. not (pointwise (λ a b. bytes_eq a.0 b.0) xs shown')) new ∙ ap (λ ys. not (pointwise (λ a b. bytes_eq a.0 b.0) next ys)) old)
    (slice_eq-Decides {E = λ (a b : TxId). bytes_eq a.0 b.0} tx_decides next own (pointwise (λ a b. bytes_eq a.0 b.0) next own) refl)

-- two lists of ids of which the code's `==` says yes
pub alike : (xs ys shown shown' : List TxId) (r : Bool) → shown ≡ xs → shown' ≡ ys → r ≡ pointwise (λ a b. bytes_eq a.0 b.0) shown shown' → IsTrue r → xs ≡ ys
alike xs ys shown shown' r one other is told =
    (slice_eq-Decides {E = λ (a b : TxId). bytes_eq a.0 b.0} tx_decides xs ys (pointwise (λ a b. bytes_eq a.0 b.0) xs ys) refl).0
    (ap (λ ss. pointwise (λ a b. bytes_eq a.0 b.0) ss ys) (sym one) ∙ ap (λ ss. pointwise (λ a b. bytes_eq a.0 b.0) shown ss) (sym other) ∙ sym is ∙ told)
