use Rattle.std.proofs.Common.{◌-◌}
use Rattle.xl_trie.proofs.Siblings.{Looks, NoneLeads}
use Rattle.xl_trie.proofs.linking.before.Given as goal

abbrev pub invariant-loop : goal.invariant-loop
invariant-loop l = Looks l.nodes l.fn.of (NoneLeads l.nodes l.fn.of l.fn.name) l.at (l.end - l.counter)
