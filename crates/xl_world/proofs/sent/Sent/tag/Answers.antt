use Rattle.std.proofs.Common.{◌≡◌, ◌∙◌, List, ℕ, ap, subst, sym, take}
use Rattle.std.specs.Prelude.{IfSome}
use Rattle.xl_core.specs.Hearing.{bytes_as_sealed}
use Rattle.xl_tags.specs.Rings.{schedule_ring}
use Rattle.xl_world.specs.Indexes.{tag_in}
use Rattle.xl_world.specs.Sending.{Sent}
use Rattle.xl_world.proofs.Framing.{to_seen}
use Rattle.xl_world.proofs.Sealing.{tag_found}
use Rattle.xl_world.proofs.sent.Sent.tag.Goals as goal

pub returns : goal.returns
returns c =
    let kept : List ℕ = take c.put-length.result c.put-length.new.room in
    let its : bytes_as_sealed (schedule_ring c.self.inside.to) kept ≡ c.args.self.now.bytes =
    ap (λ (to : ℕ). bytes_as_sealed (schedule_ring to) kept) (sym (to_seen c.self.inside.from c.self.inside.to c.self.inside.kept) ∙ ap (λ (f : Sent). f.to) c.self.view_is) ∙ sym (ap (λ (f : Sent). f.bytes) c.put-length.ensures.kept) in
    subst (λ (bytes : List ℕ). IfSome c.tag_for.result (λ tag. tag ≡ tag_in bytes)) its (tag_found c.self.inside.to kept c.tag_for.result c.tag_for.ensures)
