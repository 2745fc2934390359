use Rattle.std.proofs.Common.{◌≡◌, false, take}
use Rattle.xl_trie.proofs.Common.{has_voted}
use Rattle.xl_trie.proofs.trie.ledger_of.Given as goal

abbrev pub invariant-loop-vote : goal.invariant-loop-vote
invariant-loop-vote l = has_voted (take l.vote-index l.votes) l.member ≡ false
