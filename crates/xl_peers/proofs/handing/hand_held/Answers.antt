-- handing some frames over and then one more hands them all over in order, and the last look finds less than one
use Rattle.std.proofs.Common.{refl, ◌∙◌}
use Rattle.xl_peers.proofs.Handed.{hands_none, hands_both}
use Rattle.xl_peers.proofs.handing.hand_held.Goals as goal

pub loop-init : goal.loop-init
loop-init g c = record {
  wire = refl;
  pass = c.requires.pass;
  on = hands_none c.args.store.now (g.C.Clock.may_give c.args.host.now.clock.now) c.args.pass.now c.args.feed.now
      c.args.feed.now refl c.requires.takes;
}

pub hand_next-requires-clause-pass : goal.hand_next-requires-clause-pass
hand_next-requires-clause-pass g c = c.loop.invariant.pass

pub hand_next-requires-clause-takes : goal.hand_next-requires-clause-takes
hand_next-requires-clause-takes g c = c.loop.invariant.on.takes

pub loop-preserved : goal.loop-preserved
loop-preserved g c = record {
  wire = c.in-Ok-true.ensures.wire ∙ c.loop.invariant.wire;
  pass = c.in-Ok-true.ensures.pass;
  on = hands_both c.args.store.now (g.C.Clock.may_give c.args.host.now.clock.now) _ c.loop.pass _ _ c.loop.feed _
      c.loop.invariant.on c.in-Ok-true.ensures.handed.0;
}

pub returns-in-Ok-false-clause-handed : goal.returns-in-Ok-false-clause-handed
returns-in-Ok-false-clause-handed g c = (
  hands_both c.args.store.now (g.C.Clock.may_give c.args.host.now.clock.now) _ c.loop.pass _ _ c.loop.feed _
      c.loop.invariant.on c.in-Ok-false.ensures.handed.0,
  c.in-Ok-false.ensures.handed.1 c.in-Ok-false.field-0-test,
)

pub returns-in-Err-clause-handed : goal.returns-in-Err-clause-handed
returns-in-Err-clause-handed g c member w later k0 w0 s =
    c.in-Err.ensures.handed member w later k0 w0 (c.loop.invariant.on.on member w later k0 w0 s)
