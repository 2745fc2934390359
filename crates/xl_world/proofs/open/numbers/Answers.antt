use Rattle.std.proofs.Common.{◌∙◌}
use Rattle.xl_world.specs.Plans.{is_declared, up_from}
use Rattle.xl_world.proofs.Numbers.{numbers_more}
use Rattle.xl_world.proofs.open.numbers.Goals as goal

pub loop-number-init : goal.loop-number-init
unfolding up_from
loop-number-init c = c.new-numbers.ensures.items

pub loop-number-preserved : goal.loop-number-preserved
loop-number-preserved c =
    c.in_ok-push_some.ensures
    ∙ numbers_more (is_declared c.args.plan.now.liars.items c.args.plan.now.nodes.items) c.loop-number.number c.loop-number.numbers.items c.declared.result
    c.loop-number.auto.number c.loop-number.invariant c.declared.ensures
