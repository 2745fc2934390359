-- How far two lists go together.
use Rattle.std.proofs.Common.{◌≡◌, ℕ, zero, suc, ◌+◌, ◌<◌, ◌≤◌, eqb, List, [], ◌∷◌, length, take, refl, sym, ◌∙◌, arith, inl, inr}
use Rattle.std.proofs.lemmas.List.Sums.{common_prefix_len-le}
use Rattle.std.specs.List.{common_prefix_len}
use Rattle.xl_trie.proofs.Common.{cases_Bool, cases_lt, eqb-true, eq-eqb}

-- how many of their first elements two lists share
abbrev pub shared : List ℕ → List ℕ → ℕ
shared a b = common_prefix_len eqb a b

pub shared_low : (a b : List ℕ) → shared a b ≤ length a
shared_low a b = (common_prefix_len-le eqb a b).0

pub shared_low_right : (a b : List ℕ) → shared a b ≤ length b
shared_low_right a b = (common_prefix_len-le eqb a b).1

pub shared_same : (a b : List ℕ) (k : ℕ) → k ≤ shared a b → take k a ≡ take k b
shared_same a b zero h = refl
shared_same [] b (suc k) h = absurd (omega arith)
shared_same (x ∷ a) [] (suc k) h = absurd (omega arith)
shared_same (x ∷ a) (y ∷ b) (suc k) h = grind (arith, cases_Bool (eqb x y), eqb-true x y, shared_same a b k)

pub shared_most : (a b : List ℕ) (k : ℕ) → k ≤ length a → k ≤ length b → take k a ≡ take k b → k ≤ shared a b
shared_most a b zero h g e = omega arith
shared_most [] b (suc k) h g e = absurd (omega arith)
shared_most (x ∷ a) [] (suc k) h g e = absurd (omega arith)
shared_most (x ∷ a) (y ∷ b) (suc k) h g e =
    let heads : x ≡ y = cc in
    let tails : take k a ≡ take k b = cc in
    grind (arith, eq-eqb x y heads, shared_most a b k (omega arith) (omega arith) tails)

turned : (a b : List ℕ) → shared a b ≤ shared b a
turned a b = shared_most b a (shared a b) (shared_low_right a b) (shared_low a b) (sym (shared_same a b (shared a b) (omega arith)))

pub shared_turn : (a b : List ℕ) → shared a b ≡ shared b a
shared_turn a b = omega (arith, turned a b, turned b a)

-- where c goes further with a than b does, b leaves both at one place
pub shared_through : (a b c : List ℕ) → shared a b < shared a c → shared c b ≡ shared a b
shared_through a b c lt =
    let low = shared_low a c in
    let right = shared_low_right a c in
    let most = shared_most c b (shared a b) (omega arith) (shared_low_right a b) (sym (shared_same a c (shared a b) (omega arith)) ∙ shared_same a b (shared a b) (omega arith)) in
    elim (cases_lt (shared a b) (shared c b)) [
      | inr le ↦ omega (arith, le, most)
      | inl more ↦
          let on = shared_same a c (shared a b + 1) (omega arith) ∙ shared_same c b (shared a b + 1) (omega (arith, more)) in
          let deep = shared_most a b (shared a b + 1) (omega arith) (omega (arith, more, shared_low_right c b)) on in
          absurd (omega (arith, deep))
    ]
