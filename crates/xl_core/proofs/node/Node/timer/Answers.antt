use Rattle.std.proofs.Common.{◌∙◌, ap, sym}
use Rattle.xl_core.specs.Node.{Node, timer_outcome}
use Rattle.xl_core.proofs.Switching.{goes_on_then}
use Rattle.xl_core.proofs.node.Node.timer.Goals as goal

pub returns-then-eq-clause-exact : goal.returns-then-eq-clause-exact
returns-then-eq-clause-exact g c =
    let m : Node = c.advance.new.self in
    goes_on_then m c.chosen-ledger.result c.previous.result c.eq.result c.go_on.new.part c.go_on.new.self c.chosen-ledger.ensures.value
    (c.previous.ensures ∙ ap (λ (n : Node). n.round.setting.previous) c.self.view_is) (sym c.eq.ensures ∙ c.if-eq.true) c.go_on.ensures.exact
    ∙ ap timer_outcome c.advance.ensures
