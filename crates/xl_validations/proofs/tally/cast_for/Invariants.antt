use Rattle.std.specs.Prelude.{take}
use Rattle.xl_validations.specs.Votes.{ledger_named}
use Rattle.xl_validations.proofs.Turning.{HasTurned}
use Rattle.xl_validations.proofs.tally.cast_for.Given as goal

-- the rows so far have the votes that waited for the ledger
abbrev pub invariant-loop-row : goal.invariant-loop-row
invariant-loop-row g l = HasTurned (g.B.Branch.goes_with l.branch l.registry.headers) (λ row. ledger_named l.registry.headers row.current) (λ row. ledger_named (take l.fn.ledger l.registry.headers) row.current)
    l.fn.rows l.row-index (g.B.Branch.votes l.branch) (g.B.Branch.room l.branch)
