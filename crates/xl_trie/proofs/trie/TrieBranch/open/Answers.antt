use Rattle.std.proofs.Common.{◌+◌, ◌*◌, List, sym, subst}
use Rattle.xl_trie.proofs.Common.{Vote, GoesWith}
use Rattle.xl_trie.proofs.Opening.{opened}
use Rattle.xl_trie.proofs.trie.TrieBranch.open.Goals as goal

pub returns-clause-goes : goal.returns-clause-goes
returns-clause-goes c = λ ledgers ok.
    subst (λ (x : List Vote). GoesWith ledgers x c.take.new.self c.in-Ok.root) (sym c.in_ok-votes.ensures.items)
    (opened ledgers ok (2 * c.args.members + 1) c.in_ok-nodes.nodes c.take.new.self c.in-Ok.root c.root_node.result c.root_node.ensures.child c.root_node.ensures.span c.in_ok-nodes.ensures.empty c.in-Ok.ensures.names)
