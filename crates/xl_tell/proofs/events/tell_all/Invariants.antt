use Rattle.std.specs.String.{string_bytes}
use Rattle.xl_running.specs.Running.{world_of}
use Rattle.xl_sched.specs.declared.event.What.TheVariants as what
use Rattle.xl_world.specs.Parts.{parts_at}
use Rattle.xl_tell.proofs.Going.{Goes, deliveries_left}
use Rattle.xl_tell.proofs.events.tell_all.Given as goal

-- the deliveries from this place on are left
abbrev pub invariant-loop-place : goal.invariant-loop-place
invariant-loop-place l = Goes l.fn.running l.running (string_bytes l.fn.text) (string_bytes l.text) (parts_at (world_of l.fn.running) l.at what.All) (deliveries_left l.at l.place l.end)
