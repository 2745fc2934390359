use Rattle.std.proofs.Common.{◌-◌, List, IsSome}
use Rattle.xl_trie.proofs.Common.{IfSome, Name, IsBestSoFar, spans}
use Rattle.xl_trie.proofs.Siblings.{Looks}
use Rattle.xl_trie.proofs.kids.best_kid.Given as goal

abbrev pub invariant-loop : goal.invariant-loop
invariant-loop l = record {
  stands : IfSome l.best (λ b. IsSome (spans l.nodes b));
  looks : Looks l.nodes l.fn.of (λ (rest : List Name). IsBestSoFar l.walk.ledgers.headers (spans l.nodes) l.fn.of l.fn.out rest l.best) l.at (l.end - l.counter);
}
