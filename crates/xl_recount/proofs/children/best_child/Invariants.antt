use Rattle.std.proofs.Common.{take, length, ◌<◌}
use Rattle.std.specs.Prelude.{IfSome}
use Rattle.xl_recount.specs.Children.{Leads}
use Rattle.xl_recount.proofs.children.best_child.Given as goal

abbrev pub invariant-loop-child : goal.invariant-loop-child
invariant-loop-child l = record {
  leads : Leads l.walk.ledgers.headers l.children (take l.child-index l.children) l.out l.best;
  known : IfSome l.best (λ b. b < length l.walk.ledgers.headers);
}
