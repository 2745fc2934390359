-- The refusals of a list, one cause after the other.
use Rattle.std.proofs.Common.{◌≡◌, ℕ, ◌+◌, ◌<◌, ◌≤◌, false, List, [], ◌∷◌, ◌++◌, take, drop, length, get_or, refl, arith, ap, subst, sym, ◌∙◌, inl, inr, Option, Some, None}
use Rattle.std.specs.Prelude.{◌*◌, ◌==◌, nat_eq, nat_lt, not, Bool, Ok, find, All, option_map}
use Rattle.xl_base.specs.Refusals.{refused_if, first_of, unless_refused}
use Rattle.std.specs.List.{IsDistinct}
use Rattle.std.proofs.lemmas.Bool.{cond-false, cond-true, cases_Bool}
use Rattle.std.proofs.lemmas.Cmp.{nat_eq_equiv}
use Rattle.std.proofs.lemmas.List.{at_drop_more, take_more, append-nil, append_assoc}
use Rattle.std.proofs.lemmas.Map.Keys.{IsDistinct-push}
use Rattle.std.proofs.lemmas.List.Elements.{All-nil, All-cons}
use Rattle.std.proofs.lemmas.Bool.Decides.{nat_tests}
use Rattle.xl_lists.specs.declared.refusal.ListRefusal.{ListRefusal}
use Rattle.xl_lists.specs.declared.refusal.ListRefusal.TheVariants.{Empty, TooMany, OutOfRange, Repeated}
use Rattle.xl_lists.specs.Lists.{is_on, is_outside, is_quorum, repeated_after, rising, all_numbers, list_of, IsValid}
use Rattle.xl_lists.specs.Marks.{is_marked, marked, AreMarked}
use Rattle.xl_lists.proofs.Rising.{as_many, range_rising, once_rising, rising_again, filter_alike, on_rising}
use Rattle.xl_lists.specs.Stored.{IsStored}

-- a member that did not stand before is passed over
pub repeated_later : (member i : ℕ) (members : List ℕ) → i < length members → member ≡ get_or members i member → is_on (take i members) member ≡ false →
    repeated_after (take i members) (drop i members) ≡ repeated_after (take (i + 1) members) (drop (i + 1) members)
repeated_later member i members within here new =
    at_drop_more (repeated_after (take i members)) members i member within
    ∙ ap (λ (k : ℕ). repeated_after (take i members) (k ∷ drop (i + 1) members)) (sym here)
    ∙ cond-false (is_on (take i members) member) (Some member) _ new
    ∙ ap (λ (seen : List ℕ). repeated_after seen (drop (i + 1) members)) (ap (λ (k : ℕ). take i members ++ k ∷ []) here ∙ sym (take_more members i member within))

-- where none stood before, each stands there once
distinct_after : (seen members : List ℕ) → IsDistinct nat_eq seen → repeated_after seen members ≡ None → IsDistinct nat_eq (seen ++ members)
distinct_after seen [] once none = subst (IsDistinct nat_eq) (sym (append-nil seen)) once
distinct_after seen (m ∷ ms) once none =
    elim (cases_Bool (is_on seen m)) [
      | inl before ↦ let found : Some m ≡ None = sym (cond-true (is_on seen m) (Some m) _ before) ∙ none in cc
      | inr new ↦ subst (IsDistinct nat_eq) (append_assoc seen (m ∷ []) ms)
          (distinct_after (seen ++ m ∷ []) ms (IsDistinct-push nat_eq_equiv seen m once new) (sym (cond-false (is_on seen m) (Some m) _ new) ∙ none))
    ]

pub distinct : (members : List ℕ) → repeated_after [] members ≡ None → IsDistinct nat_eq members
unfolding IsDistinct
distinct members none = distinct_after [] members tt none

in_range : (m : ℕ) → is_outside m ≡ false → (1 ≤ m) × (m ≤ 64)
in_range m inside = (grind (arith, nat_tests), grind (arith, nat_tests))

-- where none is outside, each is a member's number
pub all_in_range : (members : List ℕ) → find is_outside members ≡ None → All (λ m. (1 ≤ m) × (m ≤ 64)) members
all_in_range [] none = All-nil (λ m. (1 ≤ m) × (m ≤ 64))
all_in_range (m ∷ ms) none =
    elim (cases_Bool (is_outside m)) [
      | inl outside ↦ let found : Some m ≡ None = sym (cond-true (is_outside m) (Some m) _ outside) ∙ none in cc
      | inr inside ↦ All-cons (λ k. (1 ≤ k) × (k ≤ 64)) m ms (in_range m inside) (all_in_range ms (sym (cond-false (is_outside m) (Some m) _ inside) ∙ none))
    ]

-- no cause, no refusal
unmapped : (cause : ℕ → ListRefusal) (found : Option ℕ) → None ≡ option_map cause found → found ≡ None
unmapped cause None e = refl
unmapped cause (Some m) e = cc

-- different members in range are a list, by rising number
valid : (members : List ℕ) (quorum : ℕ) → 1 ≤ length members → length members ≤ 64 → find is_outside members ≡ None → repeated_after [] members ≡ None →
    quorum ≤ length members → length members < 2 * quorum → IsValid (record { members = rising members; quorum = quorum })
valid members quorum some at_most inside once within majority =
    let many : length (rising members) ≡ length members = as_many members (all_in_range members inside) (distinct members once) in
    record {
      some = omega (arith, many, some);
      at_most = omega (arith, many, at_most);
      numbers = range_rising members;
      once = once_rising members;
      ordered = rising_again members (all_in_range members inside);
      within = omega (arith, many, within);
      majority = omega (arith, many, majority);
    }

no_cause : (empty many misfit : Bool) (outside repeated : Option ℕ) (n : ℕ) (cause : ListRefusal) → empty ≡ false → many ≡ false → outside ≡ None → repeated ≡ None → misfit ≡ false →
    first_of (refused_if empty Empty ∷ refused_if many (TooMany n) ∷ option_map OutOfRange outside ∷ option_map Repeated repeated ∷ refused_if misfit cause ∷ []) ≡ None
no_cause empty many misfit outside repeated n cause e m o r q = rw (e, m, o, r, q) refl

some_there : (n : ℕ) → 1 ≤ n → (n == 0) ≡ false
some_there n some = grind (arith, nat_tests)

not_many : (n : ℕ) → n ≤ 64 → nat_lt 64 n ≡ false
not_many n few = grind (arith, nat_tests)

fitting : (quorum n : ℕ) → quorum ≤ n → n < 2 * quorum → not (is_quorum quorum n) ≡ false
fitting quorum n within majority = grind (arith, nat_tests)

-- where there is no cause, these are the list
pub accepted : (members placed : List ℕ) (quorum : ℕ) → 1 ≤ length members → length members ≤ 64 →
    find is_outside members ≡ None → repeated_after [] members ≡ None → quorum ≤ length members → length members < 2 * quorum →
    placed ≡ rising members → Ok (record { members = placed; quorum = quorum }) ≡ list_of members quorum
accepted members placed quorum some at_most inside once within majority is =
    ap (λ (ms : List ℕ). Ok (record { members = ms; quorum = quorum })) is
    ∙ ap (λ (cause : Option ListRefusal). unless_refused cause (record { members = rising members; quorum = quorum }))
    (sym (no_cause _ _ _ _ _ _ _ (some_there _ some) (not_many _ at_most) inside once (fitting _ _ within majority)))

-- the marks of some members are those by rising number
marked_rising : (bits : ℕ) (members : List ℕ) → AreMarked bits members → marked bits ≡ rising members
marked_rising bits members are = filter_alike (is_marked bits) (is_on members) are all_numbers

-- what stands in the places is a list, where nothing was refused
pub is_stored : (places given members : List ℕ) (quorum bits : ℕ) → 1 ≤ length members → length members ≤ 64 →
    None ≡ option_map OutOfRange (find is_outside members) → None ≡ option_map Repeated (repeated_after [] (take (length members) given)) →
    quorum ≤ length members → length members < 2 * quorum →
    take (length members) given ≡ members → AreMarked bits (take (length members) given) →
    take (length (marked bits)) places ≡ marked bits →
    (Ok (record { members = take (length members) places; quorum = quorum }) ≡ list_of members quorum) × IsStored places (length members) quorum bits
is_stored places given members quorum bits some at_most outside repeated within majority is are front =
    let inside : find is_outside members ≡ None = unmapped OutOfRange _ outside in
    let once : repeated_after [] members ≡ None = subst (λ (ms : List ℕ). repeated_after [] ms ≡ None) is (unmapped Repeated _ repeated) in
    let these : AreMarked bits members = subst (AreMarked bits) is are in
    let all : All (λ m. (1 ≤ m) × (m ≤ 64)) members = all_in_range members inside in
    let many : length (rising members) ≡ length members = as_many members all (distinct members once) in
    let risen : marked bits ≡ rising members = marked_rising bits members these in
    let placed : take (length members) places ≡ rising members = subst (λ (n : ℕ). take n places ≡ rising members) (ap length risen ∙ many) (front ∙ risen) in (
      accepted members (take (length members) places) quorum some at_most inside once within majority placed,
      record {
        count = ap length placed ∙ many;
        valid = subst (λ (ms : List ℕ). IsValid (record { members = ms; quorum = quorum })) (sym placed) (valid members quorum some at_most inside once within majority);
        marked = λ m. these m ∙ sym (on_rising members all m) ∙ ap (λ (ms : List ℕ). is_on ms m) (sym placed);
      },
    )
