use Rattle.std.proofs.Common.{◌≡◌, take}
use Rattle.xl_ledger.specs.Walks.{GoesOn}
use Rattle.xl_recount.specs.Children.{children_of}
use Rattle.xl_recount.proofs.children.fill.Given as goal

abbrev pub invariant-loop-i : goal.invariant-loop-i
invariant-loop-i l = record {
  filled : take l.i l.places ≡ children_of l.fn.walk.ledgers.headers (take l.i l.votes) l.from;
  goes_on : GoesOn l.fn.walk l.walk;
}
