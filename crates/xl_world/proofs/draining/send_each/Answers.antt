use Rattle.std.proofs.Common.{◌≡◌, [], ◌∷◌, ◌+◌, ◌-◌, ◌∙◌, ap, arith, drop, length, length-drop, refl, take, take_all}
use Rattle.xl_wire.specs.Heads.{split_of}
use Rattle.xl_world.specs.Indexes.{Traffic}
use Rattle.xl_world.specs.Sending.{sent_as}
use Rattle.xl_world.proofs.Drains.{sent_next, unsent_none}
use Rattle.xl_world.proofs.Growing.{longer_on, longer_same}
use Rattle.xl_world.proofs.draining.send_each.Goals as goal

pub loop-length-preserved : goal.loop-length-preserved
loop-length-preserved c =
    let frames = c.args.frames.now in
    let at = c.loop-length.at in
    let n = c.in-Some.length in
    let rest : take (length frames - at) (drop at frames) ≡ drop at frames = take_all (length frames - at) (drop at frames) (omega (arith, length-drop at frames)) in (
      omega (arith, c.loop-length.invariant.0, c.in-Some.ensures.some.within, ap length rest, length-drop at frames),
      λ each are joins.
          sent_next c.args.from c.args.to each c.args.traffic.now c.loop-length.traffic c.push.new.self frames (take (length frames - at) (drop at frames)) (take (at + n - at) (drop at frames)) at n
          (c.loop-length.invariant.1 each are joins) c.in-Some.ensures.some rest (ap (λ k. take k (drop at frames)) (omega arith)) c.in_ok-push.ensures.sent,
      longer_on c.args.traffic.now.frames c.loop-length.traffic.frames c.push.new.self.frames c.loop-length.invariant.2 (sent_as c.args.from c.args.to (take (at + n - at) (drop at frames)) ∷ [], ap (λ (t : Traffic). t.frames) c.in_ok-push.ensures.sent),
    )

pub returns-clause-sent : goal.returns-clause-sent
returns-clause-sent c = λ each are joins.
    let frames = c.args.frames.now in
    let at = c.loop-length.at in
    let rest : take (length frames - at) (drop at frames) ≡ drop at frames = take_all (length frames - at) (drop at frames) (omega (arith, length-drop at frames)) in
    unsent_none c.args.from c.args.to each c.args.traffic.now c.loop-length.traffic (drop at frames) (c.loop-length.invariant.1 each are joins)
    (λ raw splits. c.in_default.ensures.none refl raw (ap split_of rest ∙ splits))

-- WHAT WAS SENT STAYS

pub returns-clause-longer : goal.returns-clause-longer
returns-clause-longer c = c.loop-length.invariant.2

pub returns-in_err-push-clause-longer : goal.returns-in_err-push-clause-longer
returns-in_err-push-clause-longer c =
    longer_on c.args.traffic.now.frames c.loop-length.traffic.frames c.push.new.self.frames c.loop-length.invariant.2
    (longer_same c.loop-length.traffic.frames c.push.new.self.frames (ap (λ (t : Traffic). t.frames) c.in_err-push.ensures.err))
