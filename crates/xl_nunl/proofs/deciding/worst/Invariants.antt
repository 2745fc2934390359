use Rattle.std.proofs.Common.{take}
use Rattle.xl_nunl.specs.Deciding.{is_worse, candidates, without}
use Rattle.xl_firsts.specs.Firsts.{IsFirst}
use Rattle.xl_nunl.proofs.deciding.worst.Given as goal

-- it is the worst of the candidates so far
abbrev pub invariant-loop-member : goal.invariant-loop-member
invariant-loop-member l = IsFirst (is_worse l.scores) (candidates (take l.member-index l.full) (without l.negative l.left) l.me) l.worst
