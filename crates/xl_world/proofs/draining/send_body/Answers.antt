use Rattle.std.proofs.Common.{◌≡◌, ◌∷◌, ℕ, List, [], arith, subst}
use Rattle.std.specs.Prelude.{OnOk}
use Rattle.xl_wire.specs.declared.body.Body.{Body}
use Rattle.xl_wire.specs.Bodies.{IsBody}
use Rattle.xl_world.specs.Indexes.{with_frames}
use Rattle.xl_world.specs.Sending.{Sent, said_to}
use Rattle.xl_world.proofs.Carrying.{spelled_between}
use Rattle.xl_world.proofs.draining.send_body.Goals as goal

pub returns-then-keep-clause-sent : goal.returns-then-keep-clause-sent
returns-then-keep-clause-sent c =
    subst (λ (b : Body). OnOk c.push_said.result (c.push_said.new.self ≡ with_frames c.args.traffic.now (said_to c.args.from c.args.to b ∷ []))) (c.keep.ensures.value c.if-keep.true) c.push_said.ensures.sent

pub returns-then-keep-clause-spelled : goal.returns-then-keep-clause-spelled
returns-then-keep-clause-spelled c =
    spelled_between c.args.from c.args.to c.args.body (omega arith, omega arith) (omega arith, omega arith) (subst IsBody (c.keep.ensures.value c.if-keep.true) (c.keep.ensures.fits c.if-keep.true))

pub returns-else-keep-clause-sent : goal.returns-else-keep-clause-sent
returns-else-keep-clause-sent c =
    subst (λ (bs : List ℕ). OnOk c.push.result (c.push.new.self ≡ with_frames c.args.traffic.now ((let f : Sent = record { from = c.args.from; to = c.args.to; bytes = bs } in f) ∷ [])))
    c.put_blank-length.ensures.heard c.push.ensures.sent
