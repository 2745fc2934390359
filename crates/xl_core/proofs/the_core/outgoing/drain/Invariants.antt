use Rattle.std.proofs.Common.{length}
use Rattle.xl_core.specs.Draining.{node_for}
use Rattle.xl_core.specs.Items.{frames_for}
use Rattle.xl_core.specs.Queues.{waiting_at}
use Rattle.xl_core.proofs.Draining.{IsDrained}
use Rattle.xl_core.proofs.the_core.outgoing.drain.Given as goal

abbrev pub decreases-loop-next : goal.decreases-loop-next
decreases-loop-next g l = length (waiting_at l.waiting l.member).items

-- the frames so far are written, and their items taken out
abbrev pub invariant-loop-next : goal.invariant-loop-next
invariant-loop-next g l = IsDrained (frames_for (node_for l.tags l.node) l.initial.waiting l.member) l.initial.waiting l.waiting l.member l.initial.room l.room l.at
