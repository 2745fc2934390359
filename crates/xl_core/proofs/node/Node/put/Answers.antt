use Rattle.std.proofs.Common.{◌≡◌, ◌∙◌, ap, sym, subst}
use Rattle.xl_core.specs.Draining.{node_for}
use Rattle.xl_core.specs.Sending.{keys_for}
use Rattle.xl_core.specs.Node.{Node}
use Rattle.xl_core.proofs.Draining.{item_put, item_passed}
use Rattle.xl_core.proofs.node.Node.put.Goals as goal

pub returns-in-Some : goal.returns-in-Some
returns-in-Some g c =
    let n : Node = c.args.self.now in
    let own : n.keys.me ≡ n.me = subst (λ (m : Node). m.keys.me ≡ m.me) c.self.view_is c.self.invariant.0.keyed.own in
    item_put (node_for c.args.tags n) (keys_for c.args.tags c.deref.result.now) c.args.to c.args.item.now c.in-Some.body c.args.at c.args.room.now c.put_body.new.room c.put_body.result
    (ap (keys_for c.args.tags) (c.deref.ensures ∙ ap (λ (m : Node). m.keys) c.self.view_is)) own (sym c.in-Some.is ∙ c.body_in.ensures) c.put_body.ensures.spelled c.put_body.ensures.put

pub returns-in-None : goal.returns-in-None
returns-in-None g c = item_passed (node_for c.args.tags c.args.self.now) c.args.to c.args.item.now c.args.at c.args.room.now (sym c.in-None.is ∙ c.body_in.ensures)
