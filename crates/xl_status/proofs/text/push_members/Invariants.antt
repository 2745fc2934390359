use Rattle.std.proofs.Common.{◌≡◌, ◌++◌, take}
use Rattle.std.specs.List.{flat_map}
use Rattle.std.specs.String.{string_bytes}
use Rattle.xl_status.specs.Texts.{member_line}
use Rattle.xl_status.proofs.text.push_members.Given as goal

-- the lines of the members so far are in the text
abbrev pub invariant-loop-member : goal.invariant-loop-member
invariant-loop-member l = string_bytes l.text
    ≡ string_bytes l.initial.text ++ flat_map (member_line l.status l.hearing) (take l.member-index l.members)
