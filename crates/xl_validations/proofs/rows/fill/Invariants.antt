use Rattle.std.proofs.Common.{◌≡◌, map, take}
use Rattle.std.specs.Prelude.{vec_capacity}
use Rattle.xl_validations.specs.Rows.{row_for}
use Rattle.xl_validations.proofs.rows.fill.Given as goal

-- the members so far have their rows
abbrev pub invariant-loop-member : goal.invariant-loop-member
invariant-loop-member l = (l.rows.items ≡ map (row_for l.fn.others) (take l.member-index l.fn.members)) × (vec_capacity l.rows ≡ vec_capacity l.fn.rows)
