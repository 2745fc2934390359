use Rattle.std.proofs.Common.{drop, map}
use Rattle.std.specs.String.{string_bytes}
use Rattle.xl_running.specs.Running.{world_of}
use Rattle.xl_sched.specs.declared.event.What.TheVariants.{Timers}
use Rattle.xl_world.specs.Parts.{parts_at, timer_at}
use Rattle.xl_voting.proofs.Going.{GoesOn}
use Rattle.xl_voting.proofs.voter.Voter.time_all.Given as goal

-- the timers from this number on are left
abbrev pub invariant-loop-node : goal.invariant-loop-node
invariant-loop-node l =
    GoesOn l.fn.self.running l.fn.self.tally (string_bytes l.fn.text) (parts_at (world_of l.fn.self.running) l.at Timers) l.self.running l.self.tally (string_bytes l.text)
    (map (timer_at l.at) (drop l.node-index l.node-items))
