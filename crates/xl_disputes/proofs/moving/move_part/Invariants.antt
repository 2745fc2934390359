use Rattle.xl_disputes.proofs.Walking.{IsMoving}
use Rattle.xl_disputes.proofs.moving.move_part.Given as goal

-- the rows so far have moved
abbrev pub invariant-loop-place : goal.invariant-loop-place
invariant-loop-place l = IsMoving l.fn.rows l.rows l.from l.to l.leaving l.coming l.part l.place
