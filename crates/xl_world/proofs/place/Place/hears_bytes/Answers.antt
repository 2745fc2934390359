-- the bytes that are written are heard as sealed, and so as they were sent
use Rattle.std.proofs.Common.{◌≡◌, ◌∙◌, ℕ, List, ap, subst, sym, take}
use Rattle.xl_core.specs.Hearing.{bytes_as_sealed}
use Rattle.xl_core.specs.declared.event.CoreEvent.TheVariants.{Frame}
use Rattle.xl_tags.specs.Rings.{schedule_ring}
use Rattle.xl_world.specs.declared.place.Fate.TheVariants.{Saved}
use Rattle.xl_world.specs.Seen.{IsAnswer, place_after}
use Rattle.xl_world.specs.Sending.{Sent}
use Rattle.xl_world.proofs.place.Place.hears_bytes.Goals as goal
use Rattle.xl_world.proofs.place.Place.hears_bytes.Goals.{After-happens}

-- these are the frame's bytes
bytes : (c : After-happens) → bytes_as_sealed (schedule_ring c.args.self.now.core.node.me) (take c.put-length.result c.put-length.new.room) ≡ c.args.frame.now.bytes
bytes c =
    ap (λ (m : ℕ). bytes_as_sealed (schedule_ring m) (take c.put-length.result c.put-length.new.room)) (sym c.requires.mine)
    ∙ sym (ap (λ (f : Sent). f.bytes) c.put-length.ensures.kept)

pub returns-clause-place : goal.returns-clause-place
returns-clause-place c =
    subst (λ (bs : List ℕ). c.happens.new.self ≡ place_after c.args.self.now (Frame c.args.now bs) Saved) (bytes ((goal.at.returns-clause-place c).After-happens)) c.happens.ensures.place

pub returns-clause-answer : goal.returns-clause-answer
returns-clause-answer c =
    subst (λ (bs : List ℕ). IsAnswer c.args.self.now (Frame c.args.now bs) Saved c.happens.new.answer) (bytes ((goal.at.returns-clause-answer c).After-happens)) c.happens.ensures.answer
