-- Seats at their start, and of those who leave nobody out.
use Rattle.std.proofs.Common.{◌≡◌, ℕ, List, [], length, replicate, refl, sym, subst}
use Rattle.xl_nunl.specs.Lists.{IsNegative}
use Rattle.xl_nunl.proofs.Negative.{none_out}
use Rattle.xl_negative.specs.Ringing.{Places, ring_keeping}
use Rattle.xl_negative.specs.Seats.{Seat, empty_seat, no_seats}

-- who leaves nobody out may
pub nobody_out : (full negative : List ℕ) → negative ≡ [] → IsNegative full negative
nobody_out full negative none = subst (IsNegative full) (sym none) (none_out full)

pub all_empty : (seats : List (Seat Places)) → seats ≡ replicate 64 (empty_seat ring_keeping) → seats ≡ no_seats ring_keeping
unfolding no_seats
all_empty seats is = is

pub all_seats : length (no_seats ring_keeping) ≡ 64
unfolding no_seats
all_seats = refl
