-- What nothing refuses is a list, and a list is what its own members and quorum give again.
use Rattle.std.proofs.Common.{◌≡◌, ◌≤◌, ◌<◌, ℕ, Bool, true, false, List, [], ◌∷◌, ◌++◌, length, refl, arith, ap, ◌∙◌, Option, Some, None, Ok}
use Rattle.std.specs.Prelude.{◌==◌, ◌||◌, ◌*◌, not, nat_eq, nat_lt, nat_le, find, option_map}
use Rattle.std.specs.Option.{option_or}
use Rattle.std.specs.List.{AllByRecursion, IsDistinct}
use Rattle.std.proofs.lemmas.Bool.{and_parts, or_left, or_right, cond-false, leb-true, ltb-true}
use Rattle.std.proofs.lemmas.Bool.Decides.{nat_tests}
use Rattle.std.proofs.lemmas.List.Elements.{recursion_from_All}
use Rattle.std.proofs.lemmas.List.Folds.{list_any-append}
use Rattle.xl_base.specs.Refusals.{refused_if, first_of, unless_refused}
use Rattle.xl_lists.specs.declared.refusal.ListRefusal.{ListRefusal}
use Rattle.xl_lists.specs.declared.refusal.ListRefusal.TheVariants.{Empty, TooMany, OutOfRange, Repeated, Quorum}
use Rattle.xl_lists.specs.Lists.{TrustedList, IsValid, is_on, is_outside, repeated_after, rising, is_quorum, refusal_of, list_of}
use Rattle.xl_lists.proofs.Refusing.{distinct, all_in_range}
use Rattle.xl_lists.proofs.Rising.{as_many, range_rising, once_rising, rising_again}

-- WHAT NOTHING REFUSES

or_none : {X : Type 0} (a b : Option X) → option_or a b ≡ None → (a ≡ None) × (b ≡ None)
or_none None b h = (refl, h)
or_none (Some x) b h = cc

if_false : (b : Bool) (x : ListRefusal) → refused_if b x ≡ None → b ≡ false
if_false true x h = cc
if_false false x h = refl

map_none : (f : ℕ → ListRefusal) (o : Option ℕ) → option_map f o ≡ None → o ≡ None
map_none f None h = refl
map_none f (Some n) h = cc

some_members : (n : ℕ) → (n == 0) ≡ false → 1 ≤ n
some_members n h = grind (arith, nat_tests)

few_members : (n : ℕ) → nat_lt 64 n ≡ false → n ≤ 64
few_members n h = grind (arith, nat_tests)

not_false : (b : Bool) → not b ≡ false → b ≡ true
not_false true h = refl
not_false false h = cc

-- members and a quorum that no cause refuses are a list
pub unrefused : (members : List ℕ) (quorum : ℕ) → refusal_of members quorum ≡ None → IsValid (record { members = rising members; quorum = quorum })
unrefused members quorum none =
    let a = or_none (refused_if (length members == 0) Empty) _ none in
    let b = or_none (refused_if (nat_lt 64 (length members)) (TooMany (length members))) _ a.1 in
    let c = or_none (option_map OutOfRange (find is_outside members)) _ b.1 in
    let d = or_none (option_map Repeated (repeated_after [] members)) _ c.1 in
    let e = or_none (refused_if (not (is_quorum quorum (length members))) (Quorum quorum (length members))) None d.1 in
    let q = and_parts (nat_le quorum (length members)) _ (not_false (is_quorum quorum (length members)) (if_false _ _ e.0)) in
    let inside = all_in_range members (map_none OutOfRange (find is_outside members) c.0) in
    let many : length (rising members) ≡ length members = as_many members inside (distinct members (map_none Repeated (repeated_after [] members) d.0)) in
    record {
      some = omega (arith, many, some_members (length members) (if_false _ _ a.0));
      at_most = omega (arith, many, few_members (length members) (if_false _ _ b.0));
      numbers = range_rising members;
      once = once_rising members;
      ordered = rising_again members inside;
      within = omega (arith, many, leb-true _ _ q.0);
      majority = omega (arith, many, ltb-true _ _ q.1);
    }

-- A LIST AGAIN

inside_of : (m : ℕ) → 1 ≤ m → m ≤ 64 → is_outside m ≡ false
inside_of m low high = grind (arith, nat_tests)

none_outside : (xs : List ℕ) → AllByRecursion (λ m. (1 ≤ m) × (m ≤ 64)) xs → find is_outside xs ≡ None
none_outside [] h = refl
none_outside (x ∷ xs) h = cond-false (is_outside x) (Some x) (find is_outside xs) (inside_of x h.0.0 h.0.1) ∙ none_outside xs h.1

itself : (x : ℕ) → (x == x) ≡ true
itself x = grind (arith, nat_tests)

unequal : (b y m : ℕ) → nat_eq b y ≡ false → (m == y) ≡ true → (m == b) ≡ false
unequal b y m apart same = grind (arith, nat_tests)

apart : (b : ℕ) (bs : List ℕ) → AllByRecursion (λ y. nat_eq b y ≡ false) bs → (m : ℕ) → is_on bs m ≡ true → (m == b) ≡ false
apart b [] h m on = absurd cc
apart b (y ∷ ys) h m on =
    elim (m == y) as (λ t. (m == y) ≡ t → (t || is_on ys m) ≡ true → (m == b) ≡ false) [
      | true ↦ λ same _. unequal b y m h.0 same
      | false ↦ λ _ there. apart b ys h.1 m there
    ] refl on

neither : (a b : Bool) → a ≡ false → b ≡ false → (a || (b || false)) ≡ false
neither a b e f = cc

seen_not : (seen : List ℕ) (x m : ℕ) → is_on seen m ≡ false → (m == x) ≡ false → is_on (seen ++ x ∷ []) m ≡ false
seen_not seen x m e f = list_any-append (λ k. m == k) seen (x ∷ []) ∙ neither (is_on seen m) (m == x) e f

pub none_repeated : (seen xs : List ℕ) → ((m : ℕ) → is_on xs m ≡ true → is_on seen m ≡ false) → IsDistinct nat_eq xs → repeated_after seen xs ≡ None
unfolding IsDistinct
none_repeated seen [] fresh once = refl
none_repeated seen (x ∷ xs) fresh once =
    cond-false (is_on seen x) (Some x) (repeated_after (seen ++ x ∷ []) xs) (fresh x (or_left (x == x) (is_on xs x) (itself x)))
    ∙ none_repeated (seen ++ x ∷ []) xs (λ m on. seen_not seen x m (fresh m (or_right (m == x) (is_on xs m) on)) (apart x xs once.0 m on)) once.1

pub no_cause : (b c d : Bool) (o p : Option ℕ) (x : ListRefusal) (y : ListRefusal) → b ≡ false → c ≡ false → o ≡ None → p ≡ None → d ≡ false →
    first_of (refused_if b Empty ∷ refused_if c x ∷ option_map OutOfRange o ∷ option_map Repeated p ∷ refused_if d y ∷ []) ≡ None
no_cause false false false None None x y e f g h k = refl
no_cause b c d o p x y e f g h k = absurd cc

not_empty : (n : ℕ) → 1 ≤ n → (n == 0) ≡ false
not_empty n some = grind (arith, nat_tests)

not_many : (n : ℕ) → n ≤ 64 → nat_lt 64 n ≡ false
not_many n few = grind (arith, nat_tests)

good_quorum : (n q : ℕ) → q ≤ n → n < 2 * q → not (is_quorum q n) ≡ false
good_quorum n q h k = grind (arith, nat_tests)

none_refused : (list : TrustedList) → IsValid list → refusal_of list.members list.quorum ≡ None
none_refused list valid =
    let n : ℕ = length list.members in
    no_cause (n == 0) (nat_lt 64 n) (not (is_quorum list.quorum n)) (find is_outside list.members) (repeated_after [] list.members) (TooMany n) (Quorum list.quorum n)
    (not_empty n valid.some) (not_many n valid.at_most)
    (none_outside list.members (recursion_from_All (λ m. (1 ≤ m) × (m ≤ 64)) list.members valid.numbers))
    (none_repeated [] list.members (λ m on. refl) valid.once)
    (good_quorum n list.quorum valid.within valid.majority)

pub listed_again : (list : TrustedList) → IsValid list → list_of list.members list.quorum ≡ Ok list
listed_again list valid =
    ap (λ (o : Option ListRefusal). unless_refused o (record { members = rising list.members; quorum = list.quorum })) (none_refused list valid)
    ∙ ap (λ (ms : List ℕ). Ok (record { members = ms; quorum = list.quorum })) valid.ordered
