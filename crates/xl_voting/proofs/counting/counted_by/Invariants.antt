use Rattle.std.proofs.Common.{◌≡◌, take}
use Rattle.std.specs.Prelude.{filter}
use Rattle.xl_validations.specs.Rows.{current_of, is_full_of}
use Rattle.xl_voting.proofs.counting.counted_by.Given as goal

-- those of the members so far
abbrev pub invariant-loop-member : goal.invariant-loop-member
invariant-loop-member l = l.counted.items ≡ filter (λ m. is_full_of l.seq l.id (current_of l.core.node.rows m)) (take l.member-index l.members)
