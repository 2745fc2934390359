-- How a frame was judged that a link gave, by the core's answer to it. Source: this project's own: the core tests for whom
-- a frame is, then whose it is, and then its tag, and each other cause behind these.
use Rattle.std.specs.Prelude.{Result, Ok, Err}
use Rattle.xl_tags.specs.declared.refusal.TagRefusal.{TagRefusal}
use Rattle.xl_tags.specs.declared.refusal.TagRefusal.TheVariants.{NotForMe, Stranger, BadTag}
use Rattle.xl_links.specs.declared.link.Judgement.{Judgement}
use Rattle.xl_links.specs.declared.link.Judgement.TheVariants as judged
use Rattle.xl_core.specs.declared.refusal.Refusal.{Refusal}
use Rattle.xl_core.specs.declared.refusal.Refusal.TheVariants.{Tag}
use Rattle.xl_core.specs.declared.taken.Taken.{Taken}
use Rattle.xl_core.specs.declared.taken.Taken.TheVariants.{Set, Pending}

abbrev pub judgement_by : TagRefusal → Judgement
judgement_by (NotForMe n) = judged.Forged
judgement_by (Stranger n) = judged.Unlisted
judgement_by (BadTag read computed) = judged.Forged

-- a transaction or a set tells no time, so it may be a copy of one that was said before
abbrev pub judgement_on : Taken → Judgement
judgement_on (Set id) = judged.Known
judgement_on Pending = judged.Known
judgement_on _ = judged.Fresh

abbrev pub judgement_of : Result Taken Refusal → Judgement
judgement_of (Ok taken) = judgement_on taken
judgement_of (Err (Tag why)) = judgement_by why
judgement_of (Err _) = judged.Known
