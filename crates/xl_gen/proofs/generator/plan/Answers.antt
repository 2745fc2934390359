-- the nodes so far are those of the numbers passed, and each turn adds one, up to the seventh
use Rattle.std.proofs.Common.{◌≡◌, ℕ, ◌-◌, arith, ap, ◌∙◌}
use Rattle.std.specs.Prelude.{map}
use Rattle.xl_world.specs.Plans.{up_from}
use Rattle.xl_gen.specs.Schedule.{node_of}
use Rattle.xl_gen.proofs.Coming.{nodes_first, nodes_last, nodes_more}
use Rattle.xl_gen.proofs.generator.plan.Goals as goal

pub loop-number-init : goal.loop-number-init
loop-number-init c = c.new-nodes.ensures.items ∙ nodes_first

pub loop-number-preserved : goal.loop-number-preserved
loop-number-preserved c =
    nodes_more c.loop-number.number c.loop-number.nodes.items c.push.new.self.items c.node.result c.loop-number.auto.number c.loop-number.invariant c.in_ok-push.ensures.items c.node.ensures

pub returns-clause-nodes : goal.returns-clause-nodes
returns-clause-nodes c =
    let above = c.loop-number-test.false in
    let least = c.loop-number.auto.number in
    let end = c.loop-number.auto.number-end (omega arith) in
    let seven : c.loop-number.number - 1 ≡ 7 = omega (arith, above, least, end) in
    c.loop-number.invariant ∙ (ap (λ (k : ℕ). map node_of (up_from 1 k)) seven ∙ nodes_last)
