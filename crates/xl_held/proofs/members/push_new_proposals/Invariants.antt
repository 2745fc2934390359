use Rattle.std.proofs.Common.{◌≡◌, ◌++◌, take}
use Rattle.std.specs.List.{flat_map}
use Rattle.std.specs.String.{string_bytes}
use Rattle.xl_held.specs.Changes.{proposal_changed}
use Rattle.xl_held.proofs.members.push_new_proposals.Given as goal

-- the positions so far
abbrev pub invariant-loop-member : goal.invariant-loop-member
invariant-loop-member l = string_bytes l.text ≡ string_bytes l.initial.text ++ flat_map (λ m. proposal_changed l.reader.names l.number l.before l.node m) (take l.member-index l.member-items)
