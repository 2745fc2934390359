-- Those of some members that pass a test are few, and members.
use Rattle.std.proofs.Common.{◌≡◌, ℕ, zero, suc, ◌≤◌, Bool, List, [], ◌∷◌, length, take, sym, ap, subst, arith}
use Rattle.std.specs.Prelude.{All, filter}
use Rattle.std.proofs.lemmas.Bool.{cond_both}
use Rattle.std.proofs.lemmas.List.Elements.{All-filter, All-take}
use Rattle.xl_flags.proofs.Remembering.{IsMember}

filter_fewer : (p : ℕ → Bool) (xs : List ℕ) (i : ℕ) → length (filter p (take i xs)) ≤ length xs
filter_fewer p xs zero = omega arith
filter_fewer p [] (suc i) = omega arith
filter_fewer p (x ∷ xs) (suc i) =
    let rest = filter_fewer p xs i in
    cond_both (p x) (x ∷ filter p (take i xs)) (filter p (take i xs)) (λ ys. length ys ≤ length (x ∷ xs)) (λ _. omega (arith, rest)) (λ _. omega (arith, rest))

module _ (p : ℕ → Bool) (members all passed : List ℕ) (i : ℕ) (are : passed ≡ filter p (take i members)) (same : members ≡ all) where
  pub passed_few : length all ≤ 64 → length passed ≤ 64
  passed_few few =
      let less = filter_fewer p members i in
      let one : length passed ≡ length (filter p (take i members)) = ap length are in
      let other : length members ≡ length all = ap length same in
      omega (arith, less, one, other, few)

  pub passed_members : All IsMember all → All IsMember passed
  passed_members each =
      subst (All IsMember) (sym are) (All-filter p IsMember (take i members) (All-take IsMember i members (subst (All IsMember) (sym same) each)))
