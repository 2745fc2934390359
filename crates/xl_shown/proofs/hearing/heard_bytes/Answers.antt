-- bytes that are no whole frame say nothing
use Rattle.std.proofs.Common.{◌∙◌, ap, sym}
use Rattle.xl_wire.specs.Heads.{parts}
use Rattle.xl_wire.specs.Raws.{raw_frame}
use Rattle.xl_core.specs.Hearing.{spoken_in}
use Rattle.xl_core.specs.declared.hearing.Spoken.{Spoken}
use Rattle.xl_core.proofs.Heard.{no_frame, short}
use Rattle.xl_shown.proofs.Sealed.{not_both}
use Rattle.xl_shown.proofs.hearing.heard_bytes.Goals as goal

pub heard_frame-requires-clause-begins : goal.heard_frame-requires-clause-begins
heard_frame-requires-clause-begins c = record {
  split = sym c.split.ensures.exact ∙ ap parts c.in-Whole.is;
  spelled = (c.split.ensures.whole (raw_frame c.in-Whole.raw)).0 (ap parts c.in-Whole.is);
}

pub returns-in-Need : goal.returns-in-Need
returns-in-Need c = λ (spoken : Spoken) is.
    absurd (not_both (spoken_in c.args.keys.now c.args.list.now.members c.args.bytes.now) spoken _ is
    (short c.args.keys.now c.args.list.now.members c.args.bytes.now c.in-Need.field-0
    (sym c.split.ensures.exact ∙ ap parts c.in-Need.is)))

pub returns-in-Refused : goal.returns-in-Refused
returns-in-Refused c = λ (spoken : Spoken) is.
    absurd (not_both (spoken_in c.args.keys.now c.args.list.now.members c.args.bytes.now) spoken _ is
    (no_frame c.args.keys.now c.args.list.now.members c.args.bytes.now c.in-Refused.field-0
    (sym c.split.ensures.exact ∙ ap parts c.in-Refused.is)))
