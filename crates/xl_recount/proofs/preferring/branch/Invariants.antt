use Rattle.std.proofs.Common.{◌≡◌, ◌≤◌, take}
use Rattle.xl_ledger.specs.Votes.{branch_of}
use Rattle.xl_ledger.specs.Walks.{GoesOn}
use Rattle.xl_recount.proofs.preferring.branch.Given as goal

abbrev pub invariant-loop-vote : goal.invariant-loop-vote
invariant-loop-vote l = record {
  counted : l.count ≡ branch_of l.fn.walk.ledgers.headers (take l.vote-index l.votes) l.ledger;
  few : l.count ≤ l.vote-index;
  goes_on : GoesOn l.fn.walk l.walk;
}
