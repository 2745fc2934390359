use Rattle.std.proofs.Common.{◌≡◌, take}
use Rattle.std.specs.Prelude.{◌==◌, not, filter}
use Rattle.xl_negative.proofs.deciding.others.Given as goal

abbrev pub invariant-loop-member : goal.invariant-loop-member
invariant-loop-member l = l.others.items ≡ filter (λ m. not (m == l.one)) (take l.member-index l.members)
