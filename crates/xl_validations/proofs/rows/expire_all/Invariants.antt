use Rattle.std.proofs.Common.{◌≡◌, map, take, drop, ◌++◌}
use Rattle.xl_validations.specs.Rows.{row_at}
use Rattle.xl_validations.proofs.rows.expire_all.Given as goal

-- the rows so far have expired, and the others are as they were
abbrev pub invariant-loop-row : goal.invariant-loop-row
invariant-loop-row l = l.rows ≡ map (row_at l.now) (take l.row-index l.initial.rows) ++ drop l.row-index l.initial.rows
