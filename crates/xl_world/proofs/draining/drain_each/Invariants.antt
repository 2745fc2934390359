use Rattle.xl_world.specs.Ends.{IsLonger}
use Rattle.xl_world.proofs.Drains.{IsDrainedTo}
use Rattle.xl_world.proofs.draining.drain_each.Given as goal

-- drained for the numbers so far, and sent so
abbrev pub invariant-loop-to : goal.invariant-loop-to
invariant-loop-to l =
    IsDrainedTo l.numbers l.to-index l.initial.core l.core l.initial.traffic l.traffic
    × IsLonger l.initial.traffic.frames l.traffic.frames
