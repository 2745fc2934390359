use Rattle.std.proofs.Common.{ap, sym, ◌∙◌}
use Rattle.xl_world.specs.Indexes.{place_of_tag}
use Rattle.xl_world.proofs.Indexing.{absent, placed_at}
use Rattle.xl_world.proofs.index.TagIndex.finds.Goals as goal

pub returns-in_default : goal.returns-in_default
returns-in_default c =
    absent c.args.self.now c.args.sent.now c.args.bytes.now c.requires.index c.requires.kept c.requires.all
    (sym (c.in_default.ensures.value ∙ ap (place_of_tag c.args.self.now) c.requires.tag))

pub returns : goal.returns
returns c =
    c.is_at.ensures
    ∙ placed_at c.args.self.now c.args.sent.now c.args.bytes.now c.in-Some.field-0.now c.requires.index c.requires.kept c.requires.all
    (sym (c.in-Some.ensures.value ∙ ap (place_of_tag c.args.self.now) c.requires.tag))
