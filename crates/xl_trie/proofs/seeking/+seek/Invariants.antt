use Rattle.std.proofs.Common.{◌-◌, ◌^◌}
use Rattle.xl_trie.proofs.Common.{seq_at}
use Rattle.xl_trie.proofs.seeking.+seek.Given as goal

abbrev pub decreases-seek : goal.decreases-seek
decreases-seek l = 2 ^ 32 - seq_at l.registry.now.headers l.span.ledger
