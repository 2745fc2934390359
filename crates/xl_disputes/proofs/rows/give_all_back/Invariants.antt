use Rattle.xl_disputes.specs.Pooled.{IsSwept}
use Rattle.xl_disputes.proofs.rows.give_all_back.Given as goal

-- the rows so far are swept
abbrev pub invariant-loop-name : goal.invariant-loop-name
invariant-loop-name l = IsSwept l.fn.pool l.pool l.order l.name-index
