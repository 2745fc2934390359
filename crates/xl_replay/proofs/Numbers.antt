-- No numbers from one on.
use Rattle.std.proofs.Common.{◌≡◌, ℕ, [], refl}
use Rattle.xl_world.specs.Plans.{up_from}

pub up_from_none : (n : ℕ) → up_from n 0 ≡ []
unfolding up_from
up_from_none n = refl
