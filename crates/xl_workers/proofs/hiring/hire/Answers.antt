-- the pass is split once for each peer left, and its share is at least two to the power of how many are left
use Rattle.std.proofs.Common.{◌≡◌, ◌<◌, length, List, [], sym, subst, arith}
use Rattle.std.proofs.lemmas.List.{nil_from_length}
use Rattle.std.proofs.lemmas.Bool.{eqb-true}
use Rattle.xl_workers.specs.declared.linking.Peer.{Peer}
use Rattle.xl_workers.specs.declared.worker.Worker.{Worker}
use Rattle.xl_workers.specs.Hiring.{Hired}
use Rattle.xl_workers.proofs.Pairs.{first_off}
use Rattle.xl_workers.proofs.Hires.{hired_none, hired_more, may_split}
use Rattle.xl_workers.proofs.hiring.hire.Goals as goal

pub loop-rest-init : goal.loop-rest-init
loop-rest-init g c = record {
  hired = subst
      (λ (ws : List (Worker g.row.L.Denot)).
      Hired c.args.store.now c.args.first c.args.peers.items c.args.first c.args.peers.items ws)
      (sym c.requires.room)
      (hired_none c.args.store.now c.args.first c.args.peers.items c.requires.first c.requires.peers c.requires.share);
  room = c.requires.fits;
}

pub split-mine-requires-clause-share : goal.split-mine-requires-clause-share
split-mine-requires-clause-share g c =
    let some_left : 0 < length c.loop-rest.rest.items = omega
    (arith, c.loop-rest.rest.ok.0, c.remove-peer.ensures.len) in
    let off = first_off c.loop-rest.rest.items c.remove-peer.new.self.items c.remove-peer.result some_left
    c.remove-peer.ensures.value c.remove-peer.ensures.items in
    let before = subst
    (λ (l : List (Peer g.row.L.Denot)).
    Hired c.args.store.now c.args.first c.args.peers.items c.loop-rest.pass l c.loop-rest.workers.items)
    off c.loop-rest.invariant.hired in
    may_split c.args.store.now c.args.first c.args.peers.items c.loop-rest.pass c.remove-peer.new.self.items
    c.remove-peer.result c.loop-rest.workers.items before

pub loop-rest-preserved : goal.loop-rest-preserved
loop-rest-preserved g c =
    let some_left : 0 < length c.loop-rest.rest.items = omega
    (arith, c.loop-rest.rest.ok.0, c.remove-peer.ensures.len) in
    let off = first_off c.loop-rest.rest.items c.remove-peer.new.self.items c.remove-peer.result some_left
    c.remove-peer.ensures.value c.remove-peer.ensures.items in
    let before = subst
    (λ (l : List (Peer g.row.L.Denot)).
    Hired c.args.store.now c.args.first c.args.peers.items c.loop-rest.pass l c.loop-rest.workers.items)
    off c.loop-rest.invariant.hired in
    let worker : Worker g.row.L.Denot = record { peer = c.remove-peer.result; pass = c.split-mine.result.1 } in
    let more = hired_more c.args.store.now c.args.first c.args.peers.items c.loop-rest.pass c.split-mine.result.0
    c.remove-peer.new.self.items c.loop-rest.workers.items worker
    before c.split-mine.ensures.passes.0 c.split-mine.ensures.passes.1 c.split-mine.ensures.first
    c.split-mine.ensures.second in
    record {
      hired = subst
          (λ (ws : List (Worker g.row.L.Denot)).
          Hired c.args.store.now c.args.first c.args.peers.items c.split-mine.result.0 c.remove-peer.new.self.items ws)
          (sym c.push_reserved.ensures.items) more;
      room = omega (arith, c.push_reserved.ensures.capacity, c.loop-rest.invariant.room);
    }

pub returns : goal.returns
returns g c =
    let none : c.loop-rest.rest.items ≡ [] = nil_from_length c.loop-rest.rest.items
    (let e = eqb-true _ _ (sym c.loop-rest-test.ensures) in omega (arith, c.loop-rest.rest.ok.0, e)) in
    subst
    (λ (l : List (Peer g.row.L.Denot)).
    Hired c.args.store.now c.args.first c.args.peers.items c.loop-rest.pass l c.loop-rest.workers.items)
    none c.loop-rest.invariant.hired
