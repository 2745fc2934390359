use Rattle.std.specs.String.{string_bytes}
use Rattle.xl_running.specs.Running.{world_of}
use Rattle.xl_sched.specs.declared.event.What.TheVariants.{All}
use Rattle.xl_world.specs.Parts.{parts_at}
use Rattle.xl_voting.proofs.Going.{GoesOn, deliveries_from}
use Rattle.xl_voting.proofs.voter.Voter.deliver_all.Given as goal

-- the deliveries from this place on are left
abbrev pub invariant-loop-place : goal.invariant-loop-place
invariant-loop-place l =
    GoesOn l.fn.self.running l.fn.self.tally (string_bytes l.fn.text) (parts_at (world_of l.fn.self.running) l.at All) l.self.running l.self.tally (string_bytes l.text) (deliveries_from l.at l.place l.end)
