-- Lists that come into force from one full list.
use Rattle.std.proofs.Common.{◌≡◌, ℕ, zero, suc, ◌<◌, ◌≤◌, true, List, [], ◌∷◌, length, get_or, refl, sym, subst, inl, inr, arith}
use Rattle.std.specs.Prelude.{◌==◌}
use Rattle.std.proofs.lemmas.Bool.{eq-eqb, or_left, or_right}
use Rattle.xl_lists.specs.Lists.{TrustedList, IsValid, is_on}
use Rattle.xl_nunl.specs.Lists.{MayBeInForce, least_quorum}
use Rattle.xl_nunl.proofs.Enough.{enough}
use Rattle.xl_nunl.proofs.Staying.{stays_lawful}
use Rattle.xl_negative.specs.Laws.{IsInForce, ListsAreEnough}

-- each member of a list is on it
on_itself : (xs : List ℕ) (k d : ℕ) → k < length xs → is_on xs (get_or xs k d) ≡ true
on_itself [] k d within = absurd (omega arith)
on_itself (x ∷ xs) zero d within = or_left (x == x) (is_on xs x) (eq-eqb x x refl)
on_itself (x ∷ xs) (suc k) d within = or_right (get_or xs k d == x) (is_on xs (get_or xs k d)) (on_itself xs k d (omega arith))

full_may : (full : TrustedList) → IsValid full → least_quorum (length full.members) ≤ full.quorum → MayBeInForce full.members full
full_may full valid least = record { once = valid.once; on = λ k d within. on_itself full.members k d within; quorum = least }

may_be : (full list : TrustedList) → IsValid full → least_quorum (length full.members) ≤ full.quorum → IsInForce full list → MayBeInForce full.members list
may_be full list valid least (inl same) = subst (MayBeInForce full.members) (sym same) (full_may full valid least)
may_be full list valid least (inr other) = subst (MayBeInForce full.members) (sym other.2) (stays_lawful full other.0 valid other.1)

pub lists_enough : ListsAreEnough
lists_enough full a b liars valid least few in_a in_b =
    enough full.members liars a b valid.once (may_be full a valid least in_a) (may_be full b valid least in_b) few
