use Rattle.std.proofs.Common.{length, Some}
use Rattle.xl_core.specs.Draining.{node_for}
use Rattle.xl_core.specs.Greetings.{greeting_frames}
use Rattle.xl_core.proofs.Greeted.{IsHanded}
use Rattle.xl_core.proofs.the_core.greeting.hand_headers.Given as goal

abbrev pub decreases-loop-next : goal.decreases-loop-next
decreases-loop-next g l = length (greeting_frames (node_for l.tags l.node) (Some l.greeting) l.member)

-- the frames so far are written, and the greeting went on by as many
abbrev pub invariant-loop-next : goal.invariant-loop-next
invariant-loop-next g l = IsHanded (node_for l.tags l.node) l.member l.initial.greeting l.greeting l.initial.room l.room l.at
