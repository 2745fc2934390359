use Rattle.std.proofs.Common.{◌≡◌, take}
use Rattle.xl_negative.specs.Ringing.{ring_keeping}
use Rattle.xl_negative.specs.Seats.{hears}
use Rattle.xl_negative.proofs.seats.Seats.hear.Given as goal

abbrev pub invariant-loop-one : goal.invariant-loop-one
invariant-loop-one l = l.self ≡ hears ring_keeping l.initial.self (take l.one-index l.heard)
