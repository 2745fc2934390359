-- the bytes held and those left are the bytes that came, and a feed that needs more takes some of each piece
use Rattle.std.proofs.Common.{◌≡◌, ◌<◌, ◌++◌, ℕ, List, [], drop, length, sym, ap, ◌∙◌, subst, append-nil, arith, rules}
use Rattle.std.proofs.lemmas.Bool.Decides.{nat_tests}
use Rattle.std.proofs.lemmas.List.{take_rest, nil_from_length}
use Rattle.xl_turns.specs.Passes.{known}
use Rattle.xl_store.specs.Stores.{start_of}
use Rattle.xl_peers.specs.Sessions.Phase.{Hands}
use Rattle.xl_peers.specs.Going.{SoFar}
use Rattle.xl_peers.proofs.Handed.{pushed, takes_some}
use Rattle.xl_peers.proofs.Stepping.{so_all}
use Rattle.xl_peers.proofs.handing.hand.Goals as goal

pub loop-rest-preserved : goal.loop-rest-preserved
loop-rest-preserved g c = record {
  wire = c.in-Ok.ensures.wire ∙ c.loop-rest.invariant.wire;
  pass = c.in-Ok.ensures.pass;
  takes = c.in-Ok.ensures.handed.0.takes;
  needs = c.in-Ok.ensures.handed.1;
  on = λ member w k0 w0 s.
      let start = start_of c.args.store.now in
      let may = g.C.Clock.may_give c.args.host.now.clock.now in
      let before = c.loop-rest.invariant.on member w k0 w0 s in
      let is = pushed c.loop-rest.feed c.push-count.new.self c.loop-rest.rest.now c.push-count.result
      c.push-count.ensures.taken c.push-count.ensures.held in
      let rest = drop c.push-count.result c.loop-rest.rest.now in
      let handed = c.in-Ok.ensures.handed.0.on member w rest k0 w0
      (subst (λ (l : List ℕ). SoFar start may member k0 w0 Hands (known c.loop-rest.pass) w l) (sym is) before) in
      subst (λ (l : List ℕ). SoFar start may member k0 w0 Hands (known c.hand_held.new.pass) w
      (c.hand_held.new.feed.held ++ l)) (sym (take_rest c.loop-rest.rest.now c.push-count.result)) handed;
  turns = let one = c.in-Ok.ensures.handed.0.turns in let before = c.loop-rest.invariant.turns in omega (arith, one, before);
}

pub loop-rest-smaller : goal.loop-rest-smaller
loop-rest-smaller g c =
    let some : 0 < length c.loop-rest.rest.now = grind (arith, nat_tests, c.is_empty.ensures, c.loop-rest-test.true) in
    let taken = takes_some c.loop-rest.feed c.loop-rest.rest.now c.push-count.result c.loop-rest.invariant.takes
    c.loop-rest.invariant.needs some c.push-count.ensures.taken in
    let least = taken.0 in
    let most = taken.1 in
    search (rules, arith)

pub returns-in-Err-clause-handed : goal.returns-in-Err-clause-handed
returns-in-Err-clause-handed g c member w k0 w0 s =
    let before = c.loop-rest.invariant.on member w k0 w0 s in
    let is = pushed c.loop-rest.feed c.push-count.new.self c.loop-rest.rest.now c.push-count.result
    c.push-count.ensures.taken c.push-count.ensures.held in
    c.in-Err.ensures.handed member w (drop c.push-count.result c.loop-rest.rest.now) k0 w0
    (subst (λ (l : List ℕ). SoFar (start_of c.args.store.now) (g.C.Clock.may_give c.args.host.now.clock.now) member k0 w0 Hands
    (known c.loop-rest.pass) w l) (sym is) before)

pub returns-clause-handed : goal.returns-clause-handed
returns-clause-handed g c = record {
  takes = c.loop-rest.invariant.takes;
  needs = c.loop-rest.invariant.needs;
  on = λ member w k0 w0 s.
      let start = start_of c.args.store.now in
      let may = g.C.Clock.may_give c.args.host.now.clock.now in
      let before = c.loop-rest.invariant.on member w k0 w0 s in
      let none : c.loop-rest.rest.now ≡ [] =
      nil_from_length _ (grind (arith, nat_tests, c.is_empty.ensures, c.loop-rest-test.false)) in
      let all = subst (λ (l : List ℕ). SoFar start may member k0 w0 Hands (known c.loop-rest.pass) w l)
      (ap (λ (l : List ℕ). c.loop-rest.feed.held ++ l) none ∙ append-nil c.loop-rest.feed.held) before in
      so_all start may member k0 w0 (known c.loop-rest.pass) w c.loop-rest.feed.held all c.loop-rest.invariant.needs;
  turns = c.loop-rest.invariant.turns;
}
