use Rattle.xl_ledger.specs.Tables.{headers_of}
use Rattle.xl_ledger.proofs.Jumping.{IsFilled}
use Rattle.xl_ledger.proofs.jumps.jumps_below.Given as goal

abbrev pub invariant-loop-level : goal.invariant-loop-level
invariant-loop-level l = IsFilled (headers_of l.ledgers) l.fn.parent l.jumps l.level l.at
