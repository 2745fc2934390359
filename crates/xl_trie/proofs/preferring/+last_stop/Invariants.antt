use Rattle.std.proofs.Common.{◌-◌}
use Rattle.xl_trie.proofs.preferring.+last_stop.Given as goal

abbrev pub decreases-last_stop : goal.decreases-last_stop
decreases-last_stop l = l.high - l.low
