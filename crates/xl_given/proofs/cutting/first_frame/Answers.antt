use Rattle.std.proofs.Common.{◌≤◌, ◌∙◌, ap, length, sym, subst, take}
use Rattle.xl_wire.specs.Heads.{parts}
use Rattle.xl_wire.specs.Kinds.{span}
use Rattle.xl_wire.specs.Raws.{SpellsRaw, raw_frame}
use Rattle.xl_wire.proofs.FeedLaws.{frame_there}
use Rattle.xl_given.proofs.CutOff.{is_first, no_first}
use Rattle.xl_given.proofs.cutting.first_frame.Goals as goal
use Rattle.xl_given.proofs.cutting.first_frame.Goals.{In-Whole}

spelled : (c : In-Whole) → SpellsRaw (raw_frame c.in-Whole.raw) (take (span c.in-Whole.raw.body.now) c.args.bytes.now)
spelled c = (c.split.ensures.whole (raw_frame c.in-Whole.raw)).0 (ap parts c.in-Whole.is)

pub front-requires : goal.front-requires
front-requires c =
    subst (λ n. n ≤ length c.args.bytes.now) (sym c.in-Whole.raw.whole)
    (frame_there c.args.bytes.now (raw_frame c.in-Whole.raw) (spelled ((goal.at.front-requires c).In-Whole)))

pub returns-in-Whole-clause-some : goal.returns-in-Whole-clause-some
returns-in-Whole-clause-some c =
    is_first c.args.bytes.now c.front.result.now (raw_frame c.in-Whole.raw) (sym c.split.ensures.exact ∙ ap parts c.in-Whole.is)
    (spelled ((goal.at.returns-in-Whole-clause-some c).In-Whole))
    (c.front.ensures ∙ ap (λ n. take n c.args.bytes.now) c.in-Whole.raw.whole)

pub returns-in_default-clause-none : goal.returns-in_default-clause-none
returns-in_default-clause-none c = λ _. no_first c.split.result c.args.bytes.now c.split.ensures.exact c.in_default.not-Whole
