-- the entry that was read meets the conditions of its core's call
use Rattle.std.proofs.Common.{◌≡◌, ◌∙◌, ap, subst, sym}
use Rattle.xl_audit.specs.Leading.{IsAskedIn, lead, lead_given, tells}
use Rattle.xl_audit.proofs.Leading.{lead_asked}
use Rattle.xl_shown.proofs.course.come_at.Goals as goal

pub judge-requires-clause-asked : goal.judge-requires-clause-asked
judge-requires-clause-asked c =
    let is : tells c.lead.new.stage c.in-Tells.read ≡ lead c.args.stage.now c.args.line.now =
    sym (ap (λ l. lead_given l c.lead.new.stage) c.in-Tells.is) ∙ c.in_ok-lead.ensures.lead in
    subst IsAskedIn (sym is) (lead_asked c.args.stage.now c.args.line.now)
