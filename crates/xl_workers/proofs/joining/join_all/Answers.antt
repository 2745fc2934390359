-- the pass knows what the first and the workers so far knew, and what each had seen is a front of what it has seen
use Rattle.std.proofs.Common.{◌≡◌, ◌<◌, length, List, [], sym, subst, arith}
use Rattle.std.proofs.lemmas.List.{nil_from_length}
use Rattle.std.proofs.lemmas.Bool.{eqb-true}
use Rattle.xl_turns.proofs.Prefixes.{prefix_all}
use Rattle.xl_turns.specs.Passes.{known}
use Rattle.xl_workers.specs.declared.worker.Worker.{Worker}
use Rattle.xl_workers.proofs.Pairs.{first_off}
use Rattle.xl_workers.proofs.Joins.{SomeJoined, joining_starts, joining_next}
use Rattle.xl_workers.proofs.joining.join_all.Goals as goal

pub loop-rest-init : goal.loop-rest-init
loop-rest-init g c =
    joining_starts c.args.store.now c.args.first c.args.workers.items c.requires.first c.requires.workers

pub join-pass-requires-clause-one : goal.join-pass-requires-clause-one
join-pass-requires-clause-one g c = c.loop-rest.invariant.pass

pub join-pass-requires-clause-other : goal.join-pass-requires-clause-other
join-pass-requires-clause-other g c =
    let some_left : 0 < length c.loop-rest.rest.items = omega
    (arith, c.loop-rest.rest.ok.0, c.remove-other.ensures.len) in
    let off = first_off c.loop-rest.rest.items c.remove-other.new.self.items c.remove-other.result some_left
    c.remove-other.ensures.value c.remove-other.ensures.items in
    (subst
    (λ (l : List (Worker g.row.L.Denot)).
    SomeJoined c.args.store.now c.args.first c.args.workers.items c.loop-rest.pass l)
    off c.loop-rest.invariant).left.0

pub loop-rest-preserved : goal.loop-rest-preserved
loop-rest-preserved g c =
    let some_left : 0 < length c.loop-rest.rest.items = omega
    (arith, c.loop-rest.rest.ok.0, c.remove-other.ensures.len) in
    let off = first_off c.loop-rest.rest.items c.remove-other.new.self.items c.remove-other.result some_left
    c.remove-other.ensures.value c.remove-other.ensures.items in
    let before = subst
    (λ (l : List (Worker g.row.L.Denot)).
    SomeJoined c.args.store.now c.args.first c.args.workers.items c.loop-rest.pass l)
    off c.loop-rest.invariant in
    let j = c.join-pass.ensures in
    joining_next c.args.store.now c.args.first c.args.workers.items c.loop-rest.pass c.join-pass.result
    c.remove-other.new.self.items c.remove-other.result j.pass j.known j.one j.other before

pub returns : goal.returns
returns g c =
    let none : c.loop-rest.rest.items ≡ [] = nil_from_length c.loop-rest.rest.items
    (let e = eqb-true _ _ (sym c.loop-rest-test.ensures) in omega (arith, c.loop-rest.rest.ok.0, e)) in
    let j = subst
    (λ (l : List (Worker g.row.L.Denot)).
    SomeJoined c.args.store.now c.args.first c.args.workers.items c.loop-rest.pass l)
    none c.loop-rest.invariant in
    record {
      pass = j.pass;
      known = j.joins;
      first = j.first;
      each = j.each (known c.loop-rest.pass).seen (prefix_all (known c.loop-rest.pass).seen) tt;
    }
