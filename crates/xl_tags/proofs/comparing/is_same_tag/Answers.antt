use Rattle.std.proofs.Common.{sym, ◌∙◌}
use Rattle.xl_tags.proofs.ComparingLaws.{no_bits}
use Rattle.xl_tags.proofs.comparing.is_same_tag.Goals as goal

pub returns : goal.returns
returns c = no_bits c.args.a.now c.args.b.now c.differing_bits.result (c.told-a ∙ sym c.told-b) c.differing_bits.ensures
