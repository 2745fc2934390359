-- the hub was asked for the contacts passed in order, and as none stands twice, what it gives the rest is unchanged
use Rattle.std.proofs.Common.{◌≡◌, ◌∙◌, ◌<◌, length, List, [], map, refl, sym, subst, arith}
use Rattle.std.proofs.lemmas.List.{nil_from_length}
use Rattle.std.proofs.lemmas.Bool.{eqb-true}
use Rattle.xl_workers.specs.declared.plan.Contact.{Contact}
use Rattle.xl_workers.specs.declared.linking.Peer.{Peer}
use Rattle.xl_workers.proofs.Pairs.{first_off}
use Rattle.xl_workers.proofs.Links.{AsksSome, SomeLinked, asks_none, asks_more, asks_all, asks_to, none_front}
use Rattle.xl_workers.proofs.Links.{linked_none, linked_more, linked_all}
use Rattle.xl_workers.specs.Linking.{hub_seen, target_of}
use Rattle.xl_workers.proofs.linking.open_links.Goals as goal

pub loop-rest-init : goal.loop-rest-init
loop-rest-init g c =
    let gives = (g.H.Hub.gives c.args.hub.now).links in
    let shows = g.H.L.Link.shows in
    let all = c.args.contacts.items in
    record {
      linked = subst (λ (ps : List (Peer g.row.H-L.Denot)). SomeLinked gives shows all gives all ps)
          (sym c.in-Ok.ensures.items) (linked_none gives shows all c.requires.once);
      room = omega (arith, c.in-Ok.ensures.capacity, c.len.ensures, c.args.contacts.ok.0);
      asked = asks_none (g.H.Hub.asked c.args.hub.now).links all;
      door = refl;
      doors = refl;
      later = omega arith;
    }

pub loop-rest-preserved : goal.loop-rest-preserved
loop-rest-preserved g c =
    let first = (g.H.Hub.gives c.args.hub.now).links in
    let now = (g.H.Hub.gives c.loop-rest.hub).links in
    let later = (g.H.Hub.gives c.open_link.new.self).links in
    let shows = g.H.L.Link.shows in
    let all = c.args.contacts.items in
    let some_left : 0 < length c.loop-rest.rest.items = omega
    (arith, c.loop-rest.rest.ok.0, c.remove-member.ensures.len) in
    let off = first_off c.loop-rest.rest.items c.remove-member.new.self.items c.remove-member.result some_left
    c.remove-member.ensures.value c.remove-member.ensures.items in
    let before = subst (λ (l : List Contact). SomeLinked first shows all now l c.loop-rest.peers.items) off
    c.loop-rest.invariant.linked in
    let peer : Peer g.row.H-L.Denot =
    record { member = c.remove-member.result.member; link = c.in-Ok-open_link.link } in
    record {
      linked = subst
          (λ (ps : List (Peer g.row.H-L.Denot)). SomeLinked first shows all later c.remove-member.new.self.items ps)
          (sym c.push_reserved.ensures.items)
          (linked_more first shows all now later c.remove-member.result c.remove-member.new.self.items
          c.loop-rest.peers.items peer before refl c.in-Ok-open_link.ensures.given c.open_link.ensures.others);
      room = omega (arith, c.push_reserved.ensures.capacity, c.loop-rest.invariant.room);
      asked = asks_more (g.H.Hub.asked c.args.hub.now).links (g.H.Hub.asked c.loop-rest.hub).links
          (g.H.Hub.asked c.open_link.new.self).links all c.remove-member.new.self.items c.remove-member.result
          (subst (λ (l : List Contact). AsksSome (g.H.Hub.asked c.args.hub.now).links (g.H.Hub.asked c.loop-rest.hub).links all l)
          off c.loop-rest.invariant.asked) c.open_link.ensures.asked;
      door = c.open_link.ensures.door ∙ c.loop-rest.invariant.door;
      doors = c.open_link.ensures.doors ∙ c.loop-rest.invariant.doors;
      later = omega (arith, c.loop-rest.invariant.later, c.open_link.ensures.later);
    }

pub returns : goal.returns
returns g c =
    let first = (g.H.Hub.gives c.args.hub.now).links in
    let now = (g.H.Hub.gives c.loop-rest.hub).links in
    let shows = g.H.L.Link.shows in
    let all = c.args.contacts.items in
    let none : c.loop-rest.rest.items ≡ [] = nil_from_length c.loop-rest.rest.items
    (let e = eqb-true _ _ (sym c.loop-rest-test.ensures) in omega (arith, c.loop-rest.rest.ok.0, e)) in
    record {
      linked = linked_all first shows all now c.loop-rest.peers.items
          (subst (λ (l : List Contact). SomeLinked first shows all now l c.loop-rest.peers.items) none
          c.loop-rest.invariant.linked);
      asked = asks_all (g.H.Hub.asked c.args.hub.now).links (g.H.Hub.asked c.loop-rest.hub).links all
          (subst (λ (l : List Contact). AsksSome (g.H.Hub.asked c.args.hub.now).links (g.H.Hub.asked c.loop-rest.hub).links all l)
          none c.loop-rest.invariant.asked);
      door = c.loop-rest.invariant.door;
      doors = c.loop-rest.invariant.doors;
      later = c.loop-rest.invariant.later;
      unlinked = tt;
    }

pub returns-in_default-clause-unlinked : goal.returns-in_default-clause-unlinked
returns-in_default-clause-unlinked g c =
    let hub = hub_seen (g.H.Hub.faults c.args.hub.now) (g.H.Hub.asked c.args.hub.now) in
    none_front hub hub (map target_of c.args.contacts.items) refl

pub returns-in-Err-clause-unlinked : goal.returns-in-Err-clause-unlinked
returns-in-Err-clause-unlinked g c =
    let all = c.args.contacts.items in
    let some_left : 0 < length c.loop-rest.rest.items = omega
    (arith, c.loop-rest.rest.ok.0, c.remove-member.ensures.len) in
    let off = first_off c.loop-rest.rest.items c.remove-member.new.self.items c.remove-member.result some_left
    c.remove-member.ensures.value c.remove-member.ensures.items in
    let earlier = c.loop-rest.invariant.later in
    let failed = c.in-Err.ensures.failed in (
      asks_to (g.H.Hub.faults c.args.hub.now) (g.H.Hub.faults c.open_link.new.self) (g.H.Hub.asked c.args.hub.now)
          (g.H.Hub.asked c.loop-rest.hub) (g.H.Hub.asked c.open_link.new.self) all c.remove-member.new.self.items
          c.remove-member.result c.remove-member.result.member refl
          (subst (λ (l : List Contact). AsksSome (g.H.Hub.asked c.args.hub.now).links (g.H.Hub.asked c.loop-rest.hub).links all l)
          off c.loop-rest.invariant.asked) c.open_link.ensures.asked,
      omega (arith, earlier, failed),
    )
