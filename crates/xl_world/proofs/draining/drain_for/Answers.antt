use Rattle.std.proofs.Common.{◌∙◌, sym}
use Rattle.xl_world.proofs.Itemwise.{not_greeted}
use Rattle.xl_world.proofs.draining.drain_for.Goals as goal

pub send_waiting-requires-clause-plain : goal.send_waiting-requires-clause-plain
send_waiting-requires-clause-plain c = not_greeted _ (sym c.was_greeted.ensures ∙ c.if-was_greeted.false)
