use Rattle.std.proofs.Common.{◌≡◌, ◌+◌, ℕ, List, Some, cond, refl, ap, sym, ◌∙◌}
use Rattle.xl_sched.proofs.PlaceLemmas.{looks_up-inserted}
use Rattle.std.specs.Str.{bytes_eq}
use Rattle.std.proofs.lemmas.Option.{get_or_from_slice_get}
use Rattle.xl_world.specs.declared.index.TagIndex.{TagIndex}
use Rattle.xl_world.specs.Indexes.{tag_in, place_of_tag, LeadsTo}
use Rattle.xl_world.proofs.Indexing.{index_next, others_lead, new_leads}
use Rattle.xl_world.proofs.index.TagIndex.add.Goals as goal

-- the frame was sent before: its tag leads to where it stood first
pub returns-then-is_again-clause-index : goal.returns-then-is_again-clause-index
returns-then-is_again-clause-index c =
    let f = c.in-Some.frame in
    let first = c.in-Some-get.field-0.now in
    let tagged : c.in-Some-tag.tag ≡ tag_in f.bytes = c.in-Some-tag.ensures in
    let leads : LeadsTo c.args.self.now c.args.sent.now f.bytes =
    (first, ap (place_of_tag c.args.self.now) (sym tagged) ∙ sym c.in-Some-get.ensures.value, c.is_again.ensures c.if-is_again.true) in
    index_next c.args.self.now _ c.args.sent.now f c.requires.index c.requires.kept c.requires.more refl (sym (get_or_from_slice_get c.args.sent.now c.args.self.now.indexed c.in-Some.frame c.in-Some.frame (sym c.in-Some.ensures))) (λ bytes to. to) leads

-- the frame's tag is a new one
pub returns-in-Ok-clause-index : goal.returns-in-Ok-clause-index
returns-in-Ok-clause-index c =
    let f = c.in-Some.frame in
    let tagged : c.in-Some-tag.tag ≡ tag_in f.bytes = c.in-Some-tag.ensures in
    let new : TagIndex = record { places = c.insert.new.self; indexed = c.args.self.now.indexed + 1; given_up = c.args.self.now.given_up } in
    let inserted : (t : List ℕ) → place_of_tag new t ≡ cond (bytes_eq t c.in-Some-tag.tag) (Some c.args.self.now.indexed) (place_of_tag c.args.self.now t) =
    λ t. looks_up-inserted (λ key. key) t c.in-Some-tag.tag _ c.args.self.now.indexed _ _ refl c.in-Ok.ensures.entries in
    index_next c.args.self.now new c.args.sent.now f c.requires.index c.requires.kept c.requires.more refl (sym (get_or_from_slice_get c.args.sent.now c.args.self.now.indexed c.in-Some.frame c.in-Some.frame (sym c.in-Some.ensures)))
    (others_lead c.args.self.now new c.args.sent.now c.in-Some-tag.tag c.args.self.now.indexed (sym c.in_default-get.ensures.value) inserted)
    (new_leads c.args.self.now new c.args.sent.now c.in-Some-tag.tag f c.args.self.now.indexed c.requires.more (sym (get_or_from_slice_get c.args.sent.now c.args.self.now.indexed c.in-Some.frame c.in-Some.frame (sym c.in-Some.ensures))) tagged inserted)
