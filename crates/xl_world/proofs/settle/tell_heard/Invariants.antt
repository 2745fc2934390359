use Rattle.std.proofs.Common.{◌≡◌, ◌++◌, take}
use Rattle.std.specs.Prelude.{map}
use Rattle.xl_world.specs.Schedule.{hearsay_of}
use Rattle.xl_world.proofs.settle.tell_heard.Given as goal

abbrev pub invariant-loop-member : goal.invariant-loop-member
invariant-loop-member l = l.told.items ≡ l.initial.told.items ++ map (hearsay_of l.core) (take l.member-index l.member-items)
