use Rattle.std.proofs.Common.{refl}
use Rattle.xl_trie.proofs.Lines.{same_kids}
use Rattle.xl_trie.proofs.counting.set_counts.Goals as goal

pub returns-clause-kids : goal.returns-clause-kids
returns-clause-kids c = same_kids c.args.nodes.now c.put.new.nodes c.requires.kids c.args.name c.node_at-node.result _ c.node_at-node.ensures.node c.put.ensures.names refl refl refl
