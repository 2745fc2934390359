use Rattle.std.proofs.Common.{◌-◌}
use Rattle.xl_trie.proofs.Common.{NoneBegins, spans}
use Rattle.xl_trie.proofs.Siblings.{Looks}
use Rattle.xl_trie.proofs.kids.kid_from.Given as goal

abbrev pub invariant-loop : goal.invariant-loop
invariant-loop l = Looks l.nodes l.fn.of (NoneBegins (spans l.nodes) l.fn.of l.fn.first) l.at (l.end - l.counter)
