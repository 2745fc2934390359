-- neither is a list
use Rattle.std.proofs.Common.{◌≡◌, refl, subst}
use Rattle.std.specs.Prelude.{OnOk}
use Rattle.xl_core.specs.declared.event.CoreEvent.TheVariants.{Relist}
use Rattle.xl_world.specs.declared.place.Fate.TheVariants.{Saved}
use Rattle.xl_world.specs.World.{World}
use Rattle.xl_world.proofs.Acting.{fair_ran}
use Rattle.xl_world.proofs.network.Network.relist.Goals as goal

pub returns-clause-world : goal.returns-clause-world
returns-clause-world c =
    subst (λ (v : World). OnOk c.act.result (c.act.new.self ≡ v)) (fair_ran c.args.self.now c.args.node (Relist c.args.at c.args.list.now) Saved (λ n. refl)) c.act.ensures.world
