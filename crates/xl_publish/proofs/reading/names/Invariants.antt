use Rattle.std.proofs.Common.{◌≡◌}
use Rattle.xl_lists.specs.Lists.{is_on}
use Rattle.xl_publish.specs.Fields.{members_in}
use Rattle.xl_publish.proofs.MemberLaws.{left_at}
use Rattle.xl_publish.proofs.reading.names.Given as goal

abbrev pub invariant-loop-place : goal.invariant-loop-place
invariant-loop-place l = is_on (left_at l.place l.bytes) l.number ≡ is_on (members_in l.bytes) l.number
