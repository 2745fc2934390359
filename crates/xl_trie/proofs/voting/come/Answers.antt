use Rattle.xl_trie.proofs.Leaving.{less_known}
use Rattle.xl_trie.proofs.voting.come.Goals as goal

pub end_at-requires-clause-trie : goal.end_at-requires-clause-trie
end_at-requires-clause-trie c = let T = c.requires.trie in (T.0, less_known c.args.registry.now.headers T.0 c.args.nodes.now c.args.place.at T.1)

pub returns-in_default-clause-trie : goal.returns-in_default-clause-trie
returns-in_default-clause-trie c = λ votes T. c.end_at.ensures.trie votes (less_known c.args.registry.now.headers votes c.args.nodes.now c.args.place.at T)
