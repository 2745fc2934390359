-- what isn't due is left, and what is due is read
use Rattle.std.proofs.Common.{refl, sym, ◌∙◌}
use Rattle.xl_heartbeat.proofs.Leading.{looked, not_due}
use Rattle.xl_heartbeat.proofs.looking.look.Goals as goal

pub returns-then-not-is_due : goal.returns-then-not-is_due
returns-then-not-is_due g c =
    not_due c.args.rolls.now c.args.now c.args.standing.now (sym c.is_due.ensures ∙ c.if-not-is_due.true)

pub returns : goal.returns
returns g c =
    looked c.args.rolls.now c.args.now c.args.standing.now _ c.take_for.result
    (sym c.is_due.ensures ∙ c.if-not-is_due.false) refl c.take_for.ensures refl
