use Rattle.std.proofs.Common.{◌∙◌, ap}
use Rattle.std.specs.Option.{option_or, unwrap_or}
use Rattle.std.specs.declared.option.Option.{Option}
use Rattle.xl_base.specs.declared.status.Status.{Status}
use Rattle.xl_base.specs.declared.status.Status.TheVariants.{Done}
use Rattle.xl_heartbeat.proofs.Firsts.{first_met}
use Rattle.xl_heartbeat.proofs.status.status_of_run.Goals as goal

pub returns : goal.returns
returns c = record {
  status = c.unwrap_or.ensures
      ∙ ap (λ (o : Option Status). unwrap_or o Done)
      (c.or-3.ensures ∙ ap (λ (o : Option Status). option_or o c.cause-2.result)
      (c.or-2.ensures ∙ ap (λ (o : Option Status). option_or o c.cause_at_stop.result) c.or.ensures))
      ∙ first_met c.first_cause.result c.cause.result c.cause_at_stop.result c.cause-2.result _ _ _ _
      c.first_cause.ensures c.cause.ensures c.cause_at_stop.ensures c.cause-2.ensures;
}
