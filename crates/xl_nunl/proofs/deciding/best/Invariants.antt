use Rattle.std.proofs.Common.{take}
use Rattle.xl_nunl.specs.Deciding.{is_better}
use Rattle.xl_firsts.specs.Firsts.{IsFirst}
use Rattle.xl_nunl.proofs.deciding.best.Given as goal

-- it is the best of the members so far
abbrev pub invariant-loop-member : goal.invariant-loop-member
invariant-loop-member l = IsFirst (is_better l.scores) (take l.member-index l.members) l.best
