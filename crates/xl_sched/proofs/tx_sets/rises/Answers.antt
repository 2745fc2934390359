use Rattle.std.proofs.Common.{Option, ap, sym, ◌∙◌}
use Rattle.xl_base.specs.declared.ids.TxId.{TxId}
use Rattle.xl_wire.proofs.SetLaws.{before_is}
use Rattle.xl_sched.specs.TxSets.{rises}
use Rattle.xl_sched.proofs.tx_sets.rises.Goals as goal

pub returns-in-Some : goal.returns-in-Some
returns-in-Some c = c.lt.ensures ∙ before_is c.in-Some.before.0 c.args.id.0 ∙ ap (λ (b : Option TxId). rises b c.args.id) (sym c.in-Some.is)
