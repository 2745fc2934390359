-- the frame of the place that is delivered, if there is one
use Rattle.std.proofs.Common.{◌≡◌, ap, sym, subst, Option, Some, None}
use Rattle.std.specs.Prelude.{IfSome, option_map}
use Rattle.xl_sched.specs.declared.event.What.{What}
use Rattle.xl_sched.specs.declared.event.What.TheVariants as what
use Rattle.xl_world.specs.Schedule.{delivery_of, frame_at}
use Rattle.xl_world.specs.Sending.{Sent}
use Rattle.xl_tell.specs.Before.{Delivers}
use Rattle.xl_tell.proofs.delivery.frame_of.Goals as goal

pub returns-in-Deliver : goal.returns-in-Deliver
returns-in-Deliver c =
    subst (λ (happening : What). IfSome c.frame_at.result (λ frame. Delivers c.args.world.now happening frame)) (sym c.in-Deliver.is) (by c.frame_at.result (sym c.frame_at.ensures))
  where
    by : (o : Option Sent) → frame_at c.args.world.now.sent c.in-Deliver.place ≡ o → IfSome o (λ frame. Delivers c.args.world.now (what.Deliver c.in-Deliver.place) frame)
    by None is = tt
    by (Some frame) is = record { steps = λ at. ap (delivery_of c.args.world.now at) is; node = ap (option_map (λ (f : Sent). f.to)) is }
