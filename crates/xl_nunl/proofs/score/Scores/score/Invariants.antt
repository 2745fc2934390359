use Rattle.std.proofs.Common.{◌≡◌, ◌-◌, ◌<◌, ◌≤◌, List, length}
use Rattle.xl_ledger.specs.Chains.{seq_at}
use Rattle.xl_ledger.specs.Jumps.{ancestor_of}
use Rattle.xl_ledger.specs.Walks.{GoesOn}
use Rattle.xl_lists.specs.declared.said.SaidLedger.{SaidLedger}
use Rattle.xl_nunl.specs.Heard.{agrees}
use Rattle.xl_nunl.specs.Rings.{Remembers, agrees_in}
use Rattle.xl_nunl.proofs.Rings.{counted_down}
use Rattle.xl_nunl.proofs.score.Scores.score.Given as goal

-- it stands at the last ledger of the chain that was looked at, and counted those so far
abbrev pub invariant-loop-back : goal.invariant-loop-back
invariant-loop-back l = record {
  goes_on : GoesOn l.fn.walk l.walk;
  known : l.at < length l.fn.walk.ledgers.headers;
  seq : seq_at l.fn.walk.ledgers.headers l.at ≡ l.top - (l.back - 1);
  at : l.at ≡ ancestor_of l.fn.walk.ledgers.headers l.fn.flag (l.top - (l.back - 1));
  most : l.score ≤ l.back;
  counted : (heard : List SaidLedger) → Remembers l.self heard
      → l.score ≡ counted_down (agrees l.fn.walk.ledgers.headers heard l.member l.fn.flag) l.top l.back;
  kept : l.score ≡ counted_down (agrees_in l.fn.walk.ledgers.headers l.self l.member l.fn.flag) l.top l.back;
}
