use Rattle.std.proofs.Common.{◌≡◌, ◌++◌, ◌∙◌, List, ap, refl, subst, sym}
use Rattle.std.specs.Prelude.{OnOk}
use Rattle.xl_core.specs.declared.event.CoreEvent.TheVariants.{Submit}
use Rattle.xl_sched.specs.declared.event.What.{What}
use Rattle.xl_world.specs.declared.outcome.Outcome.{Outcome}
use Rattle.xl_world.specs.declared.place.Fate.TheVariants.{Saved}
use Rattle.xl_world.specs.Schedule.{outcomes_at, steps_at}
use Rattle.xl_world.specs.World.{World, run}
use Rattle.xl_world.proofs.Acting.{fair_ran}
use Rattle.xl_world.proofs.network.Network.happen.Goals as goal

-- a transaction is no frame, so nothing comes forged
pub returns-in-Submit-clause-world : goal.returns-in-Submit-clause-world
returns-in-Submit-clause-world c =
    let w : World = c.args.self.now in
    subst (λ (v : World). OnOk c.act.result (c.act.new.self ≡ v))
    (fair_ran w c.in-Submit.node (Submit c.args.at c.in-Submit.tx) Saved (λ n. refl) ∙ ap (λ (happening : What). run w (steps_at w c.args.at happening)) (sym c.in-Submit.is))
    c.act.ensures.world

pub returns-in-Lie-clause-world : goal.returns-in-Lie-clause-world
returns-in-Lie-clause-world c =
    let w : World = c.args.self.now in
    subst (λ (v : World). OnOk c.lie.result (c.lie.new.self ≡ v)) (ap (λ (happening : What). run w (steps_at w c.args.at happening)) (sym c.in-Lie.is)) c.lie.ensures.world

pub returns-in-Lie-clause-told : goal.returns-in-Lie-clause-told
returns-in-Lie-clause-told c =
    subst (λ (os : List Outcome). OnOk c.lie.result (c.lie.new.told.items ≡ c.args.told.now.items ++ os)) (ap (outcomes_at c.args.self.now c.args.at) (sym c.in-Lie.is)) c.lie.ensures.told
