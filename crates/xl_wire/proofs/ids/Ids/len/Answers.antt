use Rattle.std.proofs.Common.{ap, length, sym, ◌∙◌}
use Rattle.xl_wire.specs.Storing.{kept_ids}
use Rattle.xl_wire.proofs.SetLaws.{length-ids_in}
use Rattle.xl_wire.proofs.ids.Ids.len.Goals as goal

pub returns-in-Spelled-clause-value : goal.returns-in-Spelled-clause-value
returns-in-Spelled-clause-value c = sym (length-ids_in _ c.in-Spelled.bytes.now) ∙ ap length (sym (ap kept_ids c.in-Spelled.is) ∙ c.self.view_is)
