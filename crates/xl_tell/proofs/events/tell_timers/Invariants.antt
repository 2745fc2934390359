use Rattle.std.proofs.Common.{drop, map}
use Rattle.std.specs.String.{string_bytes}
use Rattle.xl_running.specs.Running.{world_of}
use Rattle.xl_sched.specs.declared.event.What.TheVariants as what
use Rattle.xl_world.specs.Parts.{parts_at, timer_at}
use Rattle.xl_tell.proofs.Going.{Goes}
use Rattle.xl_tell.proofs.events.tell_timers.Given as goal

-- the timers of the numbers from here on are left
abbrev pub invariant-loop-node : goal.invariant-loop-node
invariant-loop-node l = Goes l.fn.running l.running (string_bytes l.fn.text) (string_bytes l.text) (parts_at (world_of l.fn.running) l.at what.Timers) (map (timer_at l.at) (drop l.node-index l.node-items))
