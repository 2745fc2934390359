use Rattle.std.proofs.Common.{◌≡◌, map, take}
use Rattle.xl_noted.specs.Noted.{member_noted}
use Rattle.xl_noted.proofs.members.note_each.Given as goal

-- the members so far
abbrev pub invariant-loop-member : goal.invariant-loop-member
invariant-loop-member l = l.noted.items ≡ map (member_noted l.node) (take l.member-index l.members)
