use Rattle.std.proofs.Common.{sym, subst}
use Rattle.xl_base.specs.Sets.{IsSet}
use Rattle.xl_core.proofs.node.Node.hold_through.Goals as goal

pub hold_with-requires : goal.hold_with-requires
hold_with-requires g c = subst IsSet (sym c.copy_ids-count.ensures.copied) c.copy_ids-count.ensures.set
