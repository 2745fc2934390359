-- The list of the seven is what their numbers and the quorum give.
use Rattle.std.proofs.Common.{◌≡◌, Ok, refl}
use Rattle.xl_lists.specs.Lists.{all_numbers, list_of}
use Rattle.xl_gen.specs.Schedule.{everyone, list}

pub listed : list_of everyone 6 ≡ Ok list
unfolding all_numbers
listed = refl
