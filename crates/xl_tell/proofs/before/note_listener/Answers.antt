-- the frame is the one that is kept as this, and of a set nothing but the time may be new
use Rattle.std.proofs.Common.{◌≡◌, ℕ, ap, sym, subst, ◌∙◌, ◌≤◌, arith}
use Rattle.xl_wire.specs.declared.body.Body.{Body}
use Rattle.xl_core.specs.declared.hearing.Speech.{Speech}
use Rattle.xl_core.specs.declared.hearing.Speech.TheVariants as speech
use Rattle.xl_core.specs.Hearing.{speech_of}
use Rattle.xl_world.specs.Schedule.{after_event}
use Rattle.xl_world.specs.Sending.{Sent, body_said, said_to}
use Rattle.xl_tell.specs.declared.before.Before.{Before}
use Rattle.xl_tell.specs.declared.before.Before.TheVariants as before
use Rattle.xl_tell.specs.Before.{Says, frame_noted, told_by}
use Rattle.xl_tell.proofs.Heard.{hearing_tells}
use Rattle.xl_tell.proofs.before.note_listener.Goals as goal

pub returns-in-Some : goal.returns-in-Some
returns-in-Some c =
    let frame : Sent = c.args.frame.now in
    let n = c.args.node.now in
    let body : Body = body_said c.in-Some.said.now in
    let what : Speech = speech_of body in
    let from = c.from-member.ensures in
    let to = c.to-number.ensures in
    let same : said_to c.from-member.result c.to-number.result body ≡ frame =
    ap (λ (m : ℕ). said_to m c.to-number.result body) from ∙ (ap (λ (m : ℕ). said_to frame.from m body) to ∙ sym c.in-Some.ensures) in
    let says : Says frame what = subst (λ (f : Sent). Says f what) same c.saying.ensures in
    λ names. ap (λ (b : Before). told_by names b (after_event c.args.world.now c.args.event.now)) (c.note_heard.ensures ∙ ap (λ (m : ℕ). frame_noted c.to-number.result n m what) from)
    ∙ hearing_tells c.args.world.now c.args.event.now frame c.to-number.result n what c.requires.delivers c.requires.brief to says (subst (λ (m : ℕ). 1 ≤ m) from (omega arith)) names

pub returns-then-is_set : goal.returns-then-is_set
returns-then-is_set c =
    let says = c.is_set.ensures c.if-is_set.true in
    λ names. ap (λ (t : ℕ). told_by names (before.Time c.to-number.result t) (after_event c.args.world.now c.args.event.now)) c.time-noted.ensures.value
    ∙ hearing_tells c.args.world.now c.args.event.now c.args.frame.now c.to-number.result c.args.node.now (speech.TxSet says.ids) c.requires.delivers c.requires.brief c.to-number.ensures
    says.says (subst (λ (m : ℕ). 1 ≤ m) c.from-member.ensures (omega arith)) names
