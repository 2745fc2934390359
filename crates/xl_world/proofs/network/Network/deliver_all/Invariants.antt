use Rattle.xl_world.specs.Ends.{Grows}
use Rattle.xl_world.specs.Stands.{AreSeats}
use Rattle.xl_world.proofs.Going.{IsDelivered}
use Rattle.xl_world.proofs.network.Network.deliver_all.Given as goal

abbrev pub invariant-loop-place : goal.invariant-loop-place
invariant-loop-place l =
    IsDelivered l.initial.self l.at l.initial.told.items l.place l.self l.told.items × Grows l.initial.self l.self × AreSeats l.seats l.self.places
