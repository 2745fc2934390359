use Rattle.std.proofs.Common.{◌≡◌, ◌∙◌, List, None, Some, ap, length, subst, sym}
use Rattle.std.specs.Prelude.{slice_get}
use Rattle.xl_world.specs.declared.frames.SentPlace.{SentPlace}
use Rattle.xl_world.specs.declared.said.Said.{Said}
use Rattle.xl_world.specs.Sending.{Sent}
use Rattle.xl_world.specs.Worlds.{IsPlace, frame_of_place}
use Rattle.xl_world.proofs.Framing.{all_at, frame_there}
use Rattle.xl_world.proofs.frames.SentFrames.get.Goals as goal

pub frame_of-requires : goal.frame_of-requires
frame_of-requires c =
    let at : slice_get c.self.inside.places.items c.args.place ≡ Some c.in-Some.found.now = ap (λ (ps : List SentPlace). slice_get ps c.args.place) (sym c.deref.ensures.value) ∙ sym c.in-Some.ensures in
    let within = all_at (IsPlace (length c.self.inside.bytes.items) (length c.self.inside.said.items)) c.self.inside.places.items c.args.place c.in-Some.found.now c.self.invariant at in
    subst (λ (bytes : List _). IsPlace (length bytes) (length c.deref-in-Some-2.result.now) c.in-Some.found.now) (sym c.deref-in-Some.ensures.value)
    (subst (λ (all : List Said). IsPlace (length c.self.inside.bytes.items) (length all) c.in-Some.found.now) (sym c.deref-in-Some-2.ensures.value) within)

pub returns-in-Some : goal.returns-in-Some
returns-in-Some c =
    let at : slice_get c.self.inside.places.items c.args.place ≡ Some c.in-Some.found.now = ap (λ (ps : List SentPlace). slice_get ps c.args.place) (sym c.deref.ensures.value) ∙ sym c.in-Some.ensures in
    ap (λ (f : Sent). Some f)
    (c.frame_of.ensures
    ∙ (ap (λ bytes. frame_of_place bytes c.deref-in-Some-2.result.now c.in-Some.found.now) c.deref-in-Some.ensures.value
    ∙ ap (λ (all : List Said). frame_of_place c.self.inside.bytes.items all c.in-Some.found.now) c.deref-in-Some-2.ensures.value))
    ∙ (sym (frame_there c.self.inside.bytes.items c.self.inside.said.items c.self.inside.places.items c.args.place (Some c.in-Some.found.now) at) ∙ ap (λ (fs : List Sent). slice_get fs c.args.place) c.self.view_is)

pub returns-in-None : goal.returns-in-None
returns-in-None c =
    let at : slice_get c.self.inside.places.items c.args.place ≡ None = ap (λ (ps : List SentPlace). slice_get ps c.args.place) (sym c.deref.ensures.value) ∙ sym c.in-None.ensures in
    sym (frame_there c.self.inside.bytes.items c.self.inside.said.items c.self.inside.places.items c.args.place None at) ∙ ap (λ (fs : List Sent). slice_get fs c.args.place) c.self.view_is
