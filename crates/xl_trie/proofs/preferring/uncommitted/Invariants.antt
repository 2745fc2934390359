use Rattle.std.proofs.Common.{◌≡◌, ◌≤◌, take}
use Rattle.xl_trie.proofs.Common.{uncommitted}
use Rattle.xl_trie.proofs.preferring.uncommitted.Given as goal

abbrev pub invariant-loop-vote : goal.invariant-loop-vote
invariant-loop-vote l = record {
  counted : l.count ≡ uncommitted l.walk.ledgers.headers (take l.vote-index l.votes) l.seq l.largest;
  few : l.count ≤ l.vote-index;
}
