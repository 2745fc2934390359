use Rattle.xl_trie.proofs.Common.{spans}
use Rattle.xl_trie.proofs.Recounting.{depth}
use Rattle.xl_trie.proofs.counting.+recount_up.Given as goal

abbrev pub decreases-recount_up : goal.decreases-recount_up
decreases-recount_up l = depth l.registry.now.headers (spans l.nodes.now l.at)
