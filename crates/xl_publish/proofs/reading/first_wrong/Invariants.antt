use Rattle.std.proofs.Common.{◌≡◌}
use Rattle.xl_publish.specs.Fields.{members_in}
use Rattle.xl_publish.specs.Refusing.{first_wrong}
use Rattle.xl_publish.proofs.MemberLaws.{left_at}
use Rattle.xl_publish.proofs.reading.first_wrong.Given as goal

abbrev pub invariant-loop-place : goal.invariant-loop-place
invariant-loop-place l = first_wrong l.place l.before (left_at l.place l.bytes) ≡ first_wrong 0 0 (members_in l.bytes)
