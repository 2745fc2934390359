use Rattle.std.proofs.Common.{◌≡◌, not}
use Rattle.std.specs.Prelude.{find}
use Rattle.xl_lists.specs.Lists.{is_on}
use Rattle.xl_publish.specs.Texts.{stranger_in}
use Rattle.xl_publish.proofs.MemberLaws.{left_at}
use Rattle.xl_publish.proofs.reading.stranger_in.Given as goal

abbrev pub invariant-loop-place : goal.invariant-loop-place
invariant-loop-place l =
    find (λ m. not (is_on l.members m)) (left_at l.place l.bytes) ≡ stranger_in l.members l.bytes
