use Rattle.std.proofs.Common.{rules}
use Rattle.xl_trie.proofs.Common.{filter_same}
use Rattle.xl_trie.proofs.trie.drop_votes_of.Goals as goal

pub returns-clause-without : goal.returns-clause-without
returns-clause-without c = filter_same _ _ _ (λ x b f' k. search rules) _ _ c.retain.ensures.filtered
