-- the time of what it knows, and else what it may change
use Rattle.std.proofs.Common.{ℕ, ap, sym, ◌∙◌}
use Rattle.std.proofs.lemmas.Bool.{cond-false, cond-true}
use Rattle.xl_core.specs.declared.hearing.Speech.{Speech}
use Rattle.xl_core.specs.Hearing.{speech_of}
use Rattle.xl_tell.specs.declared.before.Before.TheVariants as before
use Rattle.xl_tell.specs.Before.{heard_noted, is_known}
use Rattle.xl_world.specs.Sending.{body_said}
use Rattle.xl_tell.proofs.before.note_heard.Goals as goal

pub returns-then-is_known : goal.returns-then-is_known
returns-then-is_known c =
    let n = c.args.node.now in
    let i = c.args.number in
    let what : Speech = speech_of (body_said c.args.said.now) in
    ap (λ (t : ℕ). before.Time i t) c.time-noted.ensures.value
    ∙ sym (cond-true (is_known n what) (before.Time i n.time) (heard_noted i n c.args.member what) (sym c.is_known.ensures ∙ c.if-is_known.true))

pub returns : goal.returns
returns c =
    let n = c.args.node.now in
    let i = c.args.number in
    let what : Speech = speech_of (body_said c.args.said.now) in
    c.note_said.ensures
    ∙ sym (cond-false (is_known n what) (before.Time i n.time) (heard_noted i n c.args.member what) (sym c.is_known.ensures ∙ c.if-is_known.false))
