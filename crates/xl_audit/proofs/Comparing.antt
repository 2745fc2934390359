-- A reply that is told beside a given one.
use Rattle.std.proofs.Common.{◌≡◌, ◌≢◌, ◌+◌, ◌-◌, ◌==◌, ◌&&◌, ℕ, suc, Bool, true, false, List, [], ◌∷◌, ◌++◌, length, take, drop, refl, sym, ap, ◌∙◌, arith}
use Rattle.std.specs.Prelude.{nat_eq, nat_lt}
use Rattle.std.specs.List.{starts_with}
use Rattle.std.specs.Str.{bytes_eq}
use Rattle.std.proofs.Math.Seq.{take-add}
use Rattle.std.proofs.lemmas.Bool.{eq-eqb, eqb-true, le-ltb, lt-ltb}
use Rattle.std.proofs.lemmas.Bool.Decides.{nat_tests}
use Rattle.std.proofs.lemmas.List.{append-nil, append_cancel_left, take_rest}
use Rattle.std.proofs.lemmas.Slice.Eq.{bytes_eq-Decides}
use Rattle.xl_audit.specs.Cuts.{begins}

same_tests : (a b : Bool) → (a ≡ true → b ≡ true) → (b ≡ true → a ≡ true) → a ≡ b
same_tests true b to from = sym (to refl)
same_tests false true to from = from refl
same_tests false false to from = refl

-- a text is two parts exactly if what stands behind the first is the second
pub behind_front : (text front rest behind : List ℕ) → text ≡ front ++ rest
    → bytes_eq rest behind ≡ bytes_eq text (front ++ behind)
behind_front text front rest behind is =
    let whole = bytes_eq-Decides text (front ++ behind) in
    let part = bytes_eq-Decides rest behind in
    same_tests (bytes_eq rest behind) (bytes_eq text (front ++ behind))
    (λ same. whole.1 (is ∙ ap (λ (xs : List ℕ). front ++ xs) (part.0 same)))
    (λ same. part.1 (append_cancel_left front rest behind (sym is ∙ whole.0 same)))

-- and another text isn't
pub no_front : (text front behind : List ℕ) → ((rest : List ℕ) → text ≢ front ++ rest)
    → false ≡ bytes_eq text (front ++ behind)
no_front text front behind other =
    let whole = bytes_eq-Decides text (front ++ behind) in
    same_tests false (bytes_eq text (front ++ behind)) (λ never. absurd (cc)) (λ same. absurd (other behind (whole.0 same)))

-- some more of a given text
pub more_given : (given part rest : List ℕ) (same more : ℕ) → rest ≡ []
    → take more (take (length given - same) (drop same given)) ≡ part
    → take (same + more) given ++ rest ≡ (take same given ++ rest) ++ part
more_given given part rest same more none is =
    ap (λ (xs : List ℕ). take (same + more) given ++ xs) none
    ∙ append-nil (take (same + more) given)
    ∙ take-add same more given
    ∙ ap (λ (xs : List ℕ). take same given ++ xs) (ap (take more) (sym (take_rest given same)) ∙ is)
    ∙ ap (λ (xs : List ℕ). xs ++ part) (sym (append-nil (take same given)) ∙ ap (λ (xs : List ℕ). take same given ++ xs) (sym none))

-- A BEGINNING

-- the same, a byte at a time
abbrev begun : List ℕ → List ℕ → Bool
begun [] [] = false
begun [] (b ∷ others) = true
begun (a ∷ more) [] = false
begun (a ∷ more) (b ∷ others) = (a == b) && begun more others

swapped : (p q r : Bool) → (p && (q && r)) ≡ (q && (p && r))
swapped true q r = refl
swapped false true r = refl
swapped false false r = refl

less : (m n : ℕ) → nat_lt (suc m) (suc n) ≡ nat_lt m n
less m n = grind (arith, nat_tests)

begun_is : (front text : List ℕ) → begins front text ≡ begun front text
begun_is [] [] = refl
begun_is [] (b ∷ others) = ap (λ (t : Bool). t && true) (lt-ltb 0 (length (b ∷ others)) (omega arith))
begun_is (a ∷ more) [] = ap (λ (t : Bool). t && starts_with nat_eq [] (a ∷ more)) (le-ltb (length (a ∷ more)) 0 (omega arith))
begun_is (a ∷ more) (b ∷ others) =
    ap (λ (t : Bool). t && ((a == b) && starts_with nat_eq others more)) (less (length more) (length others))
    ∙ swapped (nat_lt (length more) (length others)) (a == b) (starts_with nat_eq others more)
    ∙ ap (λ (t : Bool). (a == b) && t) (begun_is more others)

same_front : (front rest behind : List ℕ) → begun rest behind ≡ begun (front ++ rest) (front ++ behind)
same_front [] rest behind = refl
same_front (a ∷ xs) rest behind =
    same_front xs rest behind ∙ ap (λ (b : Bool). b && begun (xs ++ rest) (xs ++ behind)) (sym (eq-eqb a a refl))

-- a text that another doesn't begin with, at a byte behind which it may
later : (a b : ℕ) (xs ys : List ℕ) → (a == b) ≡ true → ((rest : List ℕ) → b ∷ ys ≢ (a ∷ xs) ++ rest)
    → (rest : List ℕ) → ys ≢ xs ++ rest
later a b xs ys same other rest is =
    other rest (ap (λ (zs : List ℕ). b ∷ zs) is ∙ ap (λ (n : ℕ). n ∷ (xs ++ rest)) (sym (eqb-true a b same)))

pub begins_behind : (text front rest behind : List ℕ) → text ≡ front ++ rest
    → begins rest behind ≡ begins text (front ++ behind)
begins_behind text front rest behind is =
    begun_is rest behind ∙ same_front front rest behind ∙ ap (λ (zs : List ℕ). begun zs (front ++ behind)) (sym is)
    ∙ sym (begun_is text (front ++ behind))

flipped : (a b : ℕ) → (a == b) ≡ true → (b == a) ≡ true
flipped a b e = ap (λ (n : ℕ). n == a) (sym (eqb-true a b e)) ∙ eq-eqb a a refl

begun_before : (text front behind : List ℕ) → ((rest : List ℕ) → text ≢ front ++ rest)
    → begun text front ≡ begun text (front ++ behind)
begun_before text [] behind other = absurd (other text refl)
begun_before [] (f ∷ fs) behind other = refl
begun_before (t ∷ ts) (f ∷ fs) behind other =
    elim (t == f) as (λ v. (t == f) ≡ v → (v && begun ts fs) ≡ (v && begun ts (fs ++ behind))) [
      | true ↦ λ e. begun_before ts fs behind (later f t fs ts (flipped t f e) other)
      | false ↦ λ e. refl
    ] refl

pub begins_before : (text front behind : List ℕ) → ((rest : List ℕ) → text ≢ front ++ rest)
    → begins text front ≡ begins text (front ++ behind)
begins_before text front behind other =
    begun_is text front ∙ begun_before text front behind other ∙ sym (begun_is text (front ++ behind))
