-- a header on the chain has a spelling, so one that isn't put is past the chain's end or too long for the room
use Rattle.std.proofs.Common.{◌≡◌, ◌∙◌, ◌-◌, length, ap, sym, subst, refl}
use Rattle.xl_core.specs.Draining.{node_for}
use Rattle.xl_core.specs.Sending.{keys_for}
use Rattle.xl_core.specs.Node.{Node}
use Rattle.xl_core.specs.Queues.{count_fitting}
use Rattle.xl_core.proofs.Greeted.{none_next, puts_next, puts_none}
use Rattle.xl_core.proofs.node.Node.put_next.Goals as goal

pub returns-in_err-ledger-clause-none : goal.returns-in_err-ledger-clause-none
returns-in_err-ledger-clause-none g c = λ _. (
  ap (λ fs. count_fitting fs (length c.args.room.now - c.args.at)) (none_next (node_for c.args.tags c.args.self.now) c.args.to c.args.greeting.now (sym c.next_on_chain.ensures.value ∙ c.in_err-ledger.was)),
  refl,
)

pub returns-in-Written-clause-some : goal.returns-in-Written-clause-some
returns-in-Written-clause-some g c = λ next is.
    let n : Node = c.args.self.now in
    let own : n.keys.me ≡ n.me = subst (λ (m : Node). m.keys.me ≡ m.me) c.self.view_is c.self.invariant.0.keyed.own in
    puts_next (node_for c.args.tags n) (keys_for c.args.tags c.deref.result.now) c.args.to c.args.greeting.now c.in_ok-ledger.ledger c.header_body_at-body.result c.args.at c.in-Written.count next c.args.room.now c.put_body.new.room
    (sym c.next_on_chain.ensures.value ∙ c.in_ok-ledger.was) c.header_body_at-body.ensures (ap (keys_for c.args.tags) (c.deref.ensures ∙ ap (λ (m : Node). m.keys) c.self.view_is)) own
    c.put_body.ensures.spelled c.in-Written.ensures.put is (c.next_on_chain.ensures.known c.in_ok-ledger.ledger c.in_ok-ledger.was).1

pub returns-in-PassedOver : goal.returns-in-PassedOver
returns-in-PassedOver g c =
    let n : Node = c.args.self.now in
    let own : n.keys.me ≡ n.me = subst (λ (m : Node). m.keys.me ≡ m.me) c.self.view_is c.self.invariant.0.keyed.own in
    record {
      none = λ _.
          puts_none (node_for c.args.tags n) (keys_for c.args.tags c.deref.result.now) c.args.to c.args.greeting.now c.in_ok-ledger.ledger c.header_body_at-body.result c.args.at c.args.room.now c.put_body.new.room c.put_body.result
          (sym c.next_on_chain.ensures.value ∙ c.in_ok-ledger.was) c.header_body_at-body.ensures (ap (keys_for c.args.tags) (c.deref.ensures ∙ ap (λ (m : Node). m.keys) c.self.view_is)) own
          c.put_body.ensures.spelled c.put_body.ensures.put c.in-PassedOver.is;
      some = λ next is. absurd cc;
    }
