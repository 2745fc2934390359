use Rattle.std.proofs.Common.{◌≡◌, ◌++◌, List, ℕ, subst}
use Rattle.std.specs.Prelude.{OnOk}
use Rattle.xl_world.specs.Schedule.{hand_steps, told_in}
use Rattle.xl_world.specs.World.{World, run}
use Rattle.xl_world.proofs.network.Network.hand_in_lie.Goals as goal

pub returns-clause-world : goal.returns-clause-world
returns-clause-world c =
    let w : World = c.args.self.now in
    subst (λ (bytes : List ℕ). OnOk c.hand_in.result (c.hand_in.new.self ≡ run w (hand_steps w c.args.at c.args.to bytes))) c.put_lie-length.ensures.written c.hand_in.ensures.world

pub returns-clause-told : goal.returns-clause-told
returns-clause-told c =
    let w : World = c.args.self.now in
    subst (λ (bytes : List ℕ). OnOk c.hand_in.result (c.hand_in.new.told.items ≡ c.args.told.now.items ++ told_in w (hand_steps w c.args.at c.args.to bytes))) c.put_lie-length.ensures.written c.hand_in.ensures.told
