-- what the frame says is what its bytes carry
use Rattle.std.proofs.Common.{◌≡◌, ◌∙◌, ap, arith}
use Rattle.xl_core.specs.Node.{Node}
use Rattle.xl_world.specs.Seen.{CarriesTo}
use Rattle.xl_world.specs.Sending.{body_said}
use Rattle.xl_world.proofs.Carrying.{carries_said}
use Rattle.xl_world.proofs.place.Place.hears_sent.Goals as goal
use Rattle.xl_world.proofs.place.Place.hears_sent.Goals.{After-hears_body}

carries : (c : After-hears_body) → CarriesTo c.args.self.now.core c.from-from.result c.body.result c.args.frame.now.bytes
carries c =
    let me : c.me.result ≡ c.args.self.now.core.node.me = c.me.ensures ∙ ap (λ (n : Node). n.me) c.node.ensures.value in
    carries_said c.args.self.now.core c.args.frame.now c.from-from.result c.body.result (body_said c.in-Some.said.now) c.requires.rested c.in-Some.ensures c.requires.mine c.from-from.ensures c.body.ensures.value
    (omega arith, omega arith) (omega (arith, me), omega (arith, me)) (c.is_heard.ensures.other c.if-is_heard.true) (c.is_heard.ensures.listed c.if-is_heard.true) c.body.ensures.fits

pub returns-in-Some-clause-place : goal.returns-in-Some-clause-place
returns-in-Some-clause-place c = c.hears_body.ensures.place c.args.frame.now.bytes (carries ((goal.at.returns-in-Some-clause-place c).After-hears_body))

pub returns-in-Some-clause-answer : goal.returns-in-Some-clause-answer
returns-in-Some-clause-answer c = c.hears_body.ensures.answer c.args.frame.now.bytes (carries ((goal.at.returns-in-Some-clause-answer c).After-hears_body))
