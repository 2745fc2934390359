use Rattle.xl_ledger.proofs.Orders.{tip_alike, branch_alike, preferred_alike}
use Rattle.xl_ledger.proofs.laws.law_of_votes.Goals as goal

pub returns-clause-tips : goal.returns-clause-tips
returns-clause-tips c votes moved ledger same = tip_alike votes moved same ledger

pub returns-clause-branches : goal.returns-clause-branches
returns-clause-branches c ledgers votes moved ledger same = branch_alike ledgers votes moved same ledger

pub returns-clause-preferred : goal.returns-clause-preferred
returns-clause-preferred c ledgers votes moved largest same = preferred_alike ledgers votes moved same largest
