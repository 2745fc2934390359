use Rattle.std.proofs.Common.{ap, ◌∙◌}
use Rattle.xl_wire.specs.Raws.{raw_frame}
use Rattle.xl_tags.specs.Opening.{refusal_of}
use Rattle.xl_tags.proofs.SealingLaws.{one_frame}
use Rattle.xl_tags.proofs.opening.open.Goals as goal

pub returns-in-Ok : goal.returns-in-Ok
returns-in-Ok c = λ f spells.
    c.in-Ok.ensures.refusal
    ∙ ap (refusal_of c.args.keys.now c.args.list.now.members) (one_frame (raw_frame c.whole.result) f c.args.frame.now c.whole.ensures spells)

pub returns-in-Err : goal.returns-in-Err
returns-in-Err c = λ f spells.
    c.in-Err.ensures.refusal
    ∙ ap (refusal_of c.args.keys.now c.args.list.now.members) (one_frame (raw_frame c.whole.result) f c.args.frame.now c.whole.ensures spells)
