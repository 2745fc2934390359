-- the oldest item is sent as the frame that a drain would give, or passed over as it would be
use Rattle.std.proofs.Common.{◌∙◌, ap, refl, sym}
use Rattle.std.specs.Prelude.{option_copied}
use Rattle.xl_core.specs.Node.{Node}
use Rattle.xl_core.specs.Items.{body_in}
use Rattle.xl_world.proofs.Itemwise.{first_is_passed, first_is_sent, none_first}
use Rattle.xl_world.proofs.draining.send_first.Goals as goal

pub returns-in_default-clause-sends : goal.returns-in_default-clause-sends
returns-in_default-clause-sends c =
    (none_first c.args.core.now c.args.to (sym c.first.ensures.value ∙ ap option_copied c.in_default.is), refl, refl)

pub returns-in_ok-send_body-in-Some-body_in-clause-sends : goal.returns-in_ok-send_body-in-Some-body_in-clause-sends
returns-in_ok-send_body-in-Some-body_in-clause-sends c =
    first_is_sent c.args.core.now c.take_first.new.self c.args.to c.me-from.result c.in-Some.item.now c.in-Some-body_in.body c.args.traffic.now c.send_body.new.traffic
    (c.me-from.ensures ∙ ap (λ (n : Node). n.me) c.node.ensures.value)
    c.requires.keys
    (sym c.first.ensures.value ∙ ap option_copied c.in-Some.is)
    (sym c.in-Some-body_in.is ∙ (c.body_in.ensures ∙ ap (λ (n : Node). body_in n c.in-Some.item.now) c.node-2.ensures.value))
    c.send_body.ensures.spelled
    c.take_first.ensures
    c.in_ok-send_body-in-Some-body_in.ensures.sent

pub returns-in-None-clause-sends : goal.returns-in-None-clause-sends
returns-in-None-clause-sends c =
    first_is_passed c.args.core.now c.pass_over_first.new.self c.args.to c.in-Some.item.now c.args.traffic.now c.args.traffic.now
    (sym c.first.ensures.value ∙ ap option_copied c.in-Some.is)
    (sym c.in-None.is ∙ (c.body_in.ensures ∙ ap (λ (n : Node). body_in n c.in-Some.item.now) c.node-2.ensures.value))
    c.pass_over_first.ensures
    refl
