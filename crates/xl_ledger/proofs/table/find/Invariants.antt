use Rattle.std.proofs.Common.{length}
use Rattle.xl_ledger.specs.Tables.{headers_of}
use Rattle.xl_ledger.proofs.TableLaws.{Searches, left}
use Rattle.xl_ledger.proofs.table.find.Given as goal

abbrev pub invariant-loop-next : goal.invariant-loop-next
invariant-loop-next l = Searches (headers_of l.ledgers) (length l.table) l.id l.next

abbrev pub decreases-loop-next : goal.decreases-loop-next
decreases-loop-next l = left l.next
