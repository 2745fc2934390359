use Rattle.std.proofs.Common.{◌≡◌, ◌++◌, List, ap, subst}
use Rattle.std.specs.Prelude.{OnOk}
use Rattle.xl_world.specs.declared.outcome.Outcome.{Outcome}
use Rattle.xl_world.specs.Schedule.{told_in}
use Rattle.xl_world.specs.World.{World}
use Rattle.xl_world.proofs.Acting.{asked_ran, asked_steps}
use Rattle.xl_world.proofs.network.Network.ask.Goals as goal

pub act-requires-clause-may : goal.act-requires-clause-may
act-requires-clause-may c = c.asked_by-node.ensures.may c.asked_by-node.result.0

pub returns-clause-world : goal.returns-clause-world
returns-clause-world c =
    subst (λ (v : World). OnOk c.act.result (c.act.new.self ≡ v))
    (asked_ran c.args.self.now c.args.at c.args.ask.now c.asked_by-node.result.0 c.asked_by-node.result.1 c.args.fate c.asked_by-node.ensures.node c.asked_by-node.ensures.deed)
    c.act.ensures.world

pub returns-clause-told : goal.returns-clause-told
returns-clause-told c =
    subst (λ (os : List Outcome). OnOk c.act.result (c.act.new.told.items ≡ c.args.told.now.items ++ os))
    (ap (told_in c.args.self.now) (asked_steps c.args.self.now c.args.at c.args.ask.now c.asked_by-node.result.0 c.asked_by-node.result.1 c.args.fate c.asked_by-node.ensures.node c.asked_by-node.ensures.deed))
    c.act.ensures.told
