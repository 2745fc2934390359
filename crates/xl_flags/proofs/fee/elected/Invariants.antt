use Rattle.std.proofs.Common.{take}
use Rattle.xl_firsts.specs.Firsts.{IsFirst}
use Rattle.xl_flags.specs.Votes.{wins}
use Rattle.xl_flags.specs.Kept.{kept_votes}
use Rattle.xl_flags.proofs.fee.elected.Given as goal

-- it wins among the votes so far
abbrev pub invariant-loop-member : goal.invariant-loop-member
invariant-loop-member l = IsFirst (wins (kept_votes l.votes l.counted l.current)) (kept_votes l.votes (take l.member-index l.counted) l.current) l.best
