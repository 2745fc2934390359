use Rattle.std.proofs.Common.{ap, sym, ◌∙◌}
use Rattle.xl_sched.specs.declared.event.Lied.{Lied}
use Rattle.xl_tags.specs.Rings.{schedule_ring}
use Rattle.xl_world.specs.Schedule.{lied_bytes}
use Rattle.xl_negative.specs.Hearing.{said_in}
use Rattle.xl_negative.proofs.Lies.{others_unheard}
use Rattle.xl_negative.proofs.hearing.said_in_lie.Goals as goal

pub returns-in-Validation : goal.returns-in-Validation
returns-in-Validation c =
    c.said_in_validation.ensures ∙ ap (λ (lie : Lied). said_in (schedule_ring c.args.to) (lied_bytes c.args.from c.args.to lie)) (sym c.in-Validation.is)

pub returns-in_default : goal.returns-in_default
returns-in_default c = others_unheard c.args.from c.args.to c.args.lie.now c.in_default.not-Validation
