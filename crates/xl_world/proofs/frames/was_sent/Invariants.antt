use Rattle.std.proofs.Common.{◌≡◌, false, take}
use Rattle.xl_world.specs.Forgeries.{was_sent}
use Rattle.xl_world.proofs.frames.was_sent.Given as goal

-- it is none of the first frames
abbrev pub invariant-loop-place : goal.invariant-loop-place
invariant-loop-place l = was_sent (take l.place l.sent) l.bytes ≡ false
