-- Rolls are ordered, and the greatest of some is a function of which they are.
use Rattle.std.proofs.Common.{◌≡◌, ℕ, ◌==◌, Bool, true, false, cond, List, [], ◌∷◌, Option, Some, refl, sym, ap, subst, ◌∙◌, inl, inr, arith}
use Rattle.std.specs.Prelude.{nat_lt, Contains}
use Rattle.std.specs.Cmp.{IsTotalOrder, then_total, on_total}
use Rattle.std.specs.Cmp.Lexicographic.{slice_cmp}
use Rattle.std.specs.Ordering.{nat_cmp, is_lt, on, then_cmp, ordering_then, ordering_reverse}
use Rattle.std.specs.declared.cmp.Ordering.{Ordering}
use Rattle.std.specs.declared.cmp.Ordering.TheVariants.{Less, Equal, Greater}
use Rattle.std.proofs.lemmas.Bool.{cases_Bool, cond-true, cond-false}
use Rattle.std.proofs.lemmas.Bool.Decides.{nat_tests}
use Rattle.std.proofs.lemmas.Cmp.{nat_cmp_total, nat_list_cmp_total, tied_itself}
use Rattle.std.proofs.lemmas.Map.Lookups.{exact_bytes}
use Rattle.xl_publish.specs.Fields.{seq_in}
use Rattle.xl_publish.specs.Orders.{is_below, greatest_from, greatest}
use Rattle.xl_publish.specs.Runs.{AreSame}
use Rattle.xl_publish.proofs.Among.{none_among, first_among, later_among, among_cases}

-- the order: by the sequence, and then by the bytes
abbrev roll_cmp : List ℕ → List ℕ → Ordering
roll_cmp = then_cmp (on seq_in nat_cmp) (slice_cmp nat_cmp)

roll_total : IsTotalOrder roll_cmp
roll_total = then_total (on_total seq_in nat_cmp_total) nat_list_cmp_total

first_or_second : (below same : Bool) (o : Ordering) → (same ≡ true → below ≡ false) →
    cond same (is_lt o) below ≡ is_lt (ordering_then (cond below Less (cond same Equal Greater)) o)
first_or_second true true o h = absurd (let no : true ≡ false = h refl in cc)
first_or_second true false o h = refl
first_or_second false true o h = refl
first_or_second false false o h = refl

not_below_same : (x y : ℕ) → (x == y) ≡ true → nat_lt x y ≡ false
not_below_same x y same = grind (arith, nat_tests)

below_is : (a b : List ℕ) → is_below a b ≡ is_lt (roll_cmp a b)
below_is a b = first_or_second (nat_lt (seq_in a) (seq_in b)) (seq_in a == seq_in b) (slice_cmp nat_cmp a b) (not_below_same (seq_in a) (seq_in b))

less_is : (o : Ordering) → is_lt o ≡ true → o ≡ Less
less_is Less h = refl
less_is Equal h = absurd cc
less_is Greater h = absurd cc

pub below_itself : (a : List ℕ) → is_below a a ≡ false
below_itself a = below_is a a ∙ ap is_lt (tied_itself roll_total a)

pub below_through : (a b c : List ℕ) → is_below a b ≡ true → is_below b c ≡ true → is_below a c ≡ true
below_through a b c ab bc =
    below_is a c ∙ ap is_lt (roll_total.trans a b c (less_is (roll_cmp a b) (sym (below_is a b) ∙ ab)) (less_is (roll_cmp b c) (sym (below_is b c) ∙ bc)))

neither : (o p : Ordering) → o ≡ ordering_reverse p → is_lt o ≡ false → is_lt p ≡ false → o ≡ Equal
neither Equal p e h k = refl
neither Greater Less e h k = absurd cc
neither o p e h k = absurd cc

then_equal : (o p : Ordering) → ordering_then o p ≡ Equal → p ≡ Equal
then_equal Less p h = absurd cc
then_equal Equal p h = h
then_equal Greater p h = absurd cc

pub same_roll : (a b : List ℕ) → is_below a b ≡ false → is_below b a ≡ false → a ≡ b
same_roll a b ab ba =
    let tied : roll_cmp a b ≡ Equal = neither (roll_cmp a b) (roll_cmp b a) (roll_total.antisymm a b) (sym (below_is a b) ∙ ab) (sym (below_is b a) ∙ ba) in
    exact_bytes a b (then_equal (nat_cmp (seq_in a) (seq_in b)) (slice_cmp nat_cmp a b) tied)

-- ---- the greatest of some rolls

-- one of them, and none is above it
pub record IsGreatest (rolls : List (List ℕ)) (roll : List ℕ) : Type 0 where
  pub among : Contains rolls roll
  pub top : (other : List ℕ) → Contains rolls other → is_below roll other ≡ false

only : (roll : List ℕ) → IsGreatest (roll ∷ []) roll
only roll = record {
  among = first_among roll [];
  top = λ other h. elim (among_cases roll [] other h) [
    | inl is ↦ subst (λ (x : List ℕ). is_below roll x ≡ false) is (below_itself roll)
    | inr none ↦ absurd (none_among other none)
  ];
}

-- what is above something above a roll is above the roll
above_both : (g before roll : List ℕ) → is_below g roll ≡ false → is_below before roll ≡ true → is_below g before ≡ false
above_both g before roll top low =
    elim (cases_Bool (is_below g before)) [
      | inl below ↦ absurd (let both : true ≡ false = sym (below_through g before roll below low) ∙ top in cc)
      | inr not_below ↦ not_below
    ]

-- what isn't below something that isn't below a roll isn't below the roll
above_other : (g before roll : List ℕ) → is_below g before ≡ false → is_below before roll ≡ false → is_below g roll ≡ false
above_other g before roll top high =
    elim (cases_Bool (is_below g roll)) [
      | inr not_below ↦ not_below
      | inl below ↦ elim (cases_Bool (is_below before g)) [
        | inl lower ↦ absurd (let both : true ≡ false = sym (below_through before g roll lower below) ∙ high in cc)
        | inr same ↦ absurd (let both : true ≡ false = sym below ∙ ap (λ (x : List ℕ). is_below x roll) (same_roll g before top same) ∙ high in cc)
      ]
    ]

roll_more : (g before roll : List ℕ) (rolls : List (List ℕ)) → is_below before roll ≡ true → IsGreatest (roll ∷ rolls) g → IsGreatest (before ∷ roll ∷ rolls) g
roll_more g before roll rolls low ok = record {
  among = later_among before (roll ∷ rolls) g ok.among;
  top = λ other h. elim (among_cases before (roll ∷ rolls) other h) [
    | inl is ↦ subst (λ (x : List ℕ). is_below g x ≡ false) is (above_both g before roll (ok.top roll (first_among roll rolls)) low)
    | inr later ↦ ok.top other later
  ];
}

before_more : (g before roll : List ℕ) (rolls : List (List ℕ)) → is_below before roll ≡ false → IsGreatest (before ∷ rolls) g → IsGreatest (before ∷ roll ∷ rolls) g
before_more g before roll rolls high ok = record {
  among = elim (among_cases before rolls g ok.among) [
    | inl is ↦ subst (λ (x : List ℕ). Contains (before ∷ roll ∷ rolls) x) is (first_among before (roll ∷ rolls))
    | inr later ↦ later_among before (roll ∷ rolls) g (later_among roll rolls g later)
  ];
  top = λ other h. elim (among_cases before (roll ∷ rolls) other h) [
    | inl is ↦ ok.top other (subst (λ (x : List ℕ). Contains (before ∷ rolls) x) is (first_among before rolls))
    | inr rest ↦ elim (among_cases roll rolls other rest) [
      | inl is ↦ subst (λ (x : List ℕ). is_below g x ≡ false) is (above_other g before roll (ok.top before (first_among before rolls)) high)
      | inr later ↦ ok.top other (later_among before rolls other later)
    ]
  ];
}

-- some rolls have a greatest
pub record HasGreatest (rolls : List (List ℕ)) (found : Option (List ℕ)) : Type 0 where
  pub roll : List ℕ
  pub is : found ≡ Some roll
  pub greatest : IsGreatest rolls roll

pub has_greatest : (before : List ℕ) (rolls : List (List ℕ)) → HasGreatest (before ∷ rolls) (greatest_from (Some before) rolls)
has_greatest before [] = record { roll = before; is = refl; greatest = only before }
has_greatest before (roll ∷ rolls) =
    elim (cases_Bool (is_below before roll)) [
      | inl low ↦
          let later = has_greatest roll rolls in
          record {
            roll = later.roll;
            is = ap (λ (x : List ℕ). greatest_from (Some x) rolls) (cond-true (is_below before roll) roll before low) ∙ later.is;
            greatest = roll_more later.roll before roll rolls low later.greatest;
          }
      | inr high ↦
          let later = has_greatest before rolls in
          record {
            roll = later.roll;
            is = ap (λ (x : List ℕ). greatest_from (Some x) rolls) (cond-false (is_below before roll) roll before high) ∙ later.is;
            greatest = before_more later.roll before roll rolls high later.greatest;
          }
    ]

-- the same rolls have the same greatest
pub same_greatest : (a b : List (List ℕ)) → AreSame a b → greatest a ≡ greatest b
same_greatest [] [] same = refl
same_greatest [] (y ∷ ys) same = absurd (none_among y ((same y).1 (first_among y ys)))
same_greatest (x ∷ xs) [] same = absurd (none_among x ((same x).0 (first_among x xs)))
same_greatest (x ∷ xs) (y ∷ ys) same =
    let first = has_greatest x xs in
    let second = has_greatest y ys in
    let equal : first.roll ≡ second.roll =
    same_roll first.roll second.roll
    (first.greatest.top second.roll ((same second.roll).1 second.greatest.among))
    (second.greatest.top first.roll ((same first.roll).0 first.greatest.among)) in
    first.is ∙ ap Some equal ∙ sym second.is
