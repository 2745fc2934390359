use Rattle.xl_ledger.specs.Chains.{ids}
use Rattle.xl_ledger.specs.Tables.{headers_of}
use Rattle.xl_ledger.proofs.Clearing.{AreCleared}
use Rattle.xl_ledger.proofs.table.clear.Given as goal

-- the buckets of the ledgers so far are empty
abbrev pub invariant-loop-place : goal.invariant-loop-place
invariant-loop-place l = AreCleared (ids (headers_of l.ledgers)) l.fn.table.items l.table.items l.place
