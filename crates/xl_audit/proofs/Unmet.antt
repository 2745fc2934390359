-- Where no listed member lacks a key, each has one.
use Rattle.std.proofs.Common.{◌≡◌, ◌≢◌, ◌==◌, ◌&&◌, ◌||◌, ◌+◌, ◌<◌, ◌≤◌, ℕ, zero, suc, Bool, true, false, cond, not, List, [], ◌∷◌, Option, Some, None, refl, ap, ◌∙◌, arith}
use Rattle.std.specs.Prelude.{All, IsSome, is_some, find}
use Rattle.std.specs.List.{range_with_len}
use Rattle.std.proofs.lemmas.Bool.Decides.{nat_tests}
use Rattle.std.proofs.lemmas.List.Elements.{All-nil, All-cons, All-head, All-tail}
use Rattle.xl_lists.specs.Lists.{is_on}
use Rattle.xl_tags.specs.Opening.{HasKeys}
use Rattle.xl_tags.specs.Rings.{Ring, key_of}
use Rattle.xl_audit.specs.Opening.{is_unmet, unmet}

at_it : (p : ℕ → Bool) (n m : ℕ) → (m == n) ≡ true → p n ≡ false → p m ≡ false
at_it p n m same fails = let is : m ≡ n = grind (arith, nat_tests) in ap p is ∙ fails

another : (n m : ℕ) → (m == n) ≡ false → n ≢ m
another n m e = grind (arith, nat_tests)

-- it is this number, or one of the later ones
here_or_later : (p : ℕ → Bool) (n m : ℕ) → p n ≡ false → (n ≢ m → p m ≡ false) → p m ≡ false
here_or_later p n m fails later =
    elim (m == n) as (λ v. (m == n) ≡ v → p m ≡ false) [
      | true ↦ λ e. at_it p n m e fails
      | false ↦ λ e. later (another n m e)
    ] refl

first_fails : (b : Bool) (n : ℕ) (rest : Option ℕ) → cond b (Some n) rest ≡ None → (b ≡ false) × (rest ≡ None)
first_fails true n rest e = absurd (cc)
first_fails false n rest e = (refl, e)

-- none of these numbers passes
none_passes : (p : ℕ → Bool) (n k : ℕ) → find p (range_with_len n k) ≡ None → (m : ℕ) → n ≤ m → m < n + k → p m ≡ false
none_passes p n zero none m low high = absurd (omega (arith, low, high))
none_passes p n (suc k) none m low high =
    let parts = first_fails (p n) n (find p (range_with_len (n + 1) k)) none in
    here_or_later p n m parts.0
    (λ other. none_passes p (n + 1) k parts.1 m (omega (arith, low, other)) (omega (arith, high)))

same_number : (x : ℕ) → (x == x) ≡ true
same_number x = grind (arith, nat_tests)

or_true : (a b : Bool) → b ≡ true → (a || b) ≡ true
or_true true b e = refl
or_true false b e = e

true_or : (a b : Bool) → a ≡ true → (a || b) ≡ true
true_or true b e = refl
true_or false b e = absurd (cc)

-- each of some numbers that holds R and is one of them holds P
each : (R P : ℕ → Type 0) (ms : List ℕ) → All R ms → ((m : ℕ) → R m → is_on ms m ≡ true → P m) → All P ms
each R P [] all h = All-nil P
each R P (x ∷ xs) all h =
    All-cons P x xs
    (h x (All-head R x xs all) (true_or (x == x) (is_on xs x) (same_number x)))
    (each R P xs (All-tail R x xs all) (λ m r on. h m r (or_true (m == x) (is_on xs m) on)))

has_key : (on mine some : Bool) → on ≡ true → mine ≡ false → (on && not mine && not some) ≡ false → some ≡ true
has_key true false true a b e = refl
has_key true false false a b e = absurd (cc)
has_key true true some a b e = absurd (cc)
has_key false mine some a b e = absurd (cc)

not_mine : (m me : ℕ) → m ≢ me → (m == me) ≡ false
not_mine m me other = grind (arith, nat_tests)

pub met : (ring : Ring) (members : List ℕ) → All (λ m. (1 ≤ m) × (m ≤ 64)) members → unmet ring members ≡ None
    → HasKeys ring members
met ring members numbers none =
    each (λ m. (1 ≤ m) × (m ≤ 64)) (λ m. m ≢ ring.me → IsSome (key_of ring m)) members numbers
    (λ m within on other.
    has_key (is_on members m) (m == ring.me) (is_some (key_of ring m)) on (not_mine m ring.me other)
    (none_passes (is_unmet ring members) 1 64 none m within.0 (omega (arith, within.1))))
