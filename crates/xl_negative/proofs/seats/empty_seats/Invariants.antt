use Rattle.std.proofs.Common.{◌≡◌, ◌≤◌, replicate, vec_len, vec_capacity}
use Rattle.xl_negative.specs.Ringing.{ring_keeping}
use Rattle.xl_negative.specs.Seats.{empty_seat}
use Rattle.xl_negative.proofs.seats.empty_seats.Given as goal

abbrev pub invariant-loop : goal.invariant-loop
invariant-loop l = (vec_len l.seats ≡ l.counter) × (64 ≤ vec_capacity l.seats) × (l.seats.items ≡ replicate l.counter (empty_seat ring_keeping))
