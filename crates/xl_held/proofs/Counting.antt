-- What is written of one number after another.
use Rattle.std.proofs.Common.{◌≡◌, ℕ, suc, ◌+◌, ◌-◌, ◌<◌, ◌≤◌, List, ◌++◌, arith, ap, sym, ◌∙◌, append_assoc}
use Rattle.std.specs.List.{flat_map}
use Rattle.std.proofs.lemmas.List.{append-nil}
use Rattle.xl_world.specs.Plans.{up_from}

-- the part of a number is written, and then those of the numbers behind it are left
pub one_written : (f : ℕ → List ℕ) (n last : ℕ) (so_far now whole : List ℕ) → n < last → so_far ++ flat_map f (up_from n (last - n)) ≡ whole → now ≡ so_far ++ f n → now ++ flat_map f (up_from (n + 1) (last - (n + 1))) ≡ whole
unfolding up_from
one_written f n last so_far now whole lt is more =
    let rest = flat_map f (up_from (n + 1) (last - (n + 1))) in
    let one : last - n ≡ suc (last - (n + 1)) = omega (arith, lt) in
    ap (λ (xs : List ℕ). xs ++ rest) more
    ∙ (append_assoc so_far (f n) rest
    ∙ (ap (λ (k : ℕ). so_far ++ flat_map f (up_from n k)) (sym one) ∙ is))

-- none is left
pub all_written : (f : ℕ → List ℕ) (n last : ℕ) (now whole : List ℕ) → last ≤ n → now ++ flat_map f (up_from n (last - n)) ≡ whole → now ≡ whole
unfolding up_from
all_written f n last now whole le is =
    let none : last - n ≡ 0 = omega (arith, le) in
    sym (append-nil now) ∙ (ap (λ (k : ℕ). now ++ flat_map f (up_from n k)) (sym none) ∙ is)
