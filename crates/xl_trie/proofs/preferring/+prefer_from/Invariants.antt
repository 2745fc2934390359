use Rattle.std.proofs.Common.{◌-◌, ◌^◌}
use Rattle.xl_trie.proofs.Common.{seq_at}
use Rattle.xl_trie.proofs.preferring.+prefer_from.Given as goal

abbrev pub decreases-prefer_from : goal.decreases-prefer_from
decreases-prefer_from l = 2 ^ 32 - seq_at l.walk.now.ledgers.headers l.span.ledger
