use Rattle.xl_world.specs.Ends.{Grows}
use Rattle.xl_world.proofs.Going.{IsTimed}
use Rattle.xl_world.proofs.network.Network.timers.Given as goal

abbrev pub invariant-loop-k : goal.invariant-loop-k
invariant-loop-k l = IsTimed l.initial.self l.at l.initial.told.items l.k l.self l.told.items × Grows l.initial.self l.self
