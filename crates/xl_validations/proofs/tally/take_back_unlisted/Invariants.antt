use Rattle.xl_validations.specs.Tallies.{kept_on}
use Rattle.xl_validations.specs.Votes.{ledger_named}
use Rattle.xl_validations.proofs.Turning.{HasTurned}
use Rattle.xl_validations.proofs.tally.take_back_unlisted.Given as goal

-- the rows so far have lost the votes of members that are not on the list
abbrev pub invariant-loop-row : goal.invariant-loop-row
invariant-loop-row g l = HasTurned (g.B.Branch.goes_with l.branch l.registry.headers) (λ row. ledger_named l.registry.headers (kept_on l.fn.list.members row)) (λ row. ledger_named l.registry.headers row.current)
    l.fn.rows l.row-index (g.B.Branch.votes l.branch) (g.B.Branch.room l.branch)
