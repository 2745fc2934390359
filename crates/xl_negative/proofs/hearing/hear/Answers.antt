use Rattle.std.proofs.Common.{◌≡◌, ◌++◌, sym, subst}
use Rattle.std.specs.Prelude.{OnOk}
use Rattle.xl_sched.specs.declared.event.What.{What}
use Rattle.xl_negative.specs.Hearing.{heard_in}
use Rattle.xl_negative.proofs.hearing.hear.Goals as goal

pub returns-in-Lie : goal.returns-in-Lie
returns-in-Lie c =
    subst
    (λ (w : What). OnOk c.hear_lie.result (c.hear_lie.new.heard.items ≡ c.args.heard.now.items ++ heard_in c.args.world.now w))
    (sym c.in-Lie.is) c.hear_lie.ensures
