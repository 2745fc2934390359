use Rattle.std.proofs.Common.{◌∙◌, arith}
use Rattle.xl_trie.proofs.Spots.{few_nodes, nodes_many}
use Rattle.xl_trie.proofs.trie.Trie.nodes.Goals as goal

pub returns-clause-few : goal.returns-clause-few
returns-clause-few c = λ ledgers ok goes. omega (arith, c.live.ensures, few_nodes ledgers ok c.args.self.now.votes.items c.args.self.now.nodes goes.0.spans c.args.self.now.root goes.1)

pub returns-clause-spots : goal.returns-clause-spots
returns-clause-spots c = λ ledgers ok goes. c.live.ensures ∙ nodes_many ledgers ok c.args.self.now.votes.items c.args.self.now.nodes goes.0.spans c.args.self.now.root goes.1
