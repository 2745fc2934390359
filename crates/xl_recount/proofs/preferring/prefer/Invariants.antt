use Rattle.std.proofs.Common.{◌≡◌, ◌-◌, ◌<◌, length}
use Rattle.xl_ledger.specs.Votes.{prefer}
use Rattle.xl_ledger.specs.Walks.{GoesOn}
use Rattle.xl_recount.proofs.preferring.prefer.Given as goal

abbrev pub invariant-loop : goal.invariant-loop
invariant-loop l = record {
  known : l.at < length l.fn.walk.ledgers.headers;
  same : prefer l.fn.walk.ledgers.headers l.votes l.largest (length l.fn.walk.ledgers.headers - l.counter) l.at ≡ prefer l.fn.walk.ledgers.headers l.votes l.largest (length l.fn.walk.ledgers.headers) 0;
  goes_on : GoesOn l.fn.walk l.walk;
}
