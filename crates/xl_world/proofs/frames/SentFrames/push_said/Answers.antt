use Rattle.std.proofs.Common.{◌≡◌, [], ◌∷◌, ◌++◌, ◌∙◌, List, ℕ, ap, length, map, refl, subst, sym}
use Rattle.std.specs.Prelude.{All, slice_get}
use Rattle.std.proofs.lemmas.Option.{slice_get_within}
use Rattle.xl_world.specs.declared.frames.KeptSpeech.{KeptSpeech}
use Rattle.xl_world.specs.declared.frames.SentPlace.{SentPlace}
use Rattle.xl_world.specs.declared.frames.SentPlace.TheVariants as place
use Rattle.xl_world.specs.declared.said.Said.{Said}
use Rattle.xl_world.specs.Sending.{Sent, body_said, said_to}
use Rattle.xl_world.specs.Worlds.{IsPlace, frame_of_place}
use Rattle.xl_world.proofs.Framing.{all_at, frames_longer, frames_more, on_err, places_more, said_frame}
use Rattle.xl_world.proofs.Growing.{longer_same}
use Rattle.xl_world.proofs.frames.SentFrames.push_said.Goals as goal

pub keep_said-requires : goal.keep_said-requires
keep_said-requires c = record {
  within = λ k p at. all_at (IsPlace (length c.self.inside.bytes.items) (length c.self.inside.said.items)) c.self.inside.places.items k (place.Said p) c.self.invariant
      (ap (λ (ps : List SentPlace). slice_get ps k) (sym c.deref-2.ensures.value) ∙ at);
}

-- more is said, and no frame says it
pub returns-in_err-place-clause-err : goal.returns-in_err-place-clause-err
returns-in_err-place-clause-err c =
    let bytes : List ℕ = c.self.inside.bytes.items in
    let now : List Said = c.keep_said.new.all.items in
    let still : map (frame_of_place bytes now) c.self.inside.places.items ≡ c.args.self.now =
    frames_longer bytes bytes c.self.inside.said.items now c.self.inside.places.items c.self.invariant (longer_same bytes bytes refl) c.keep_said.ensures.longer ∙ c.self.view_is in
    on_err (map (frame_of_place bytes now) c.self.inside.places.items ≡ c.args.self.now) c.from_residual.result still

pub returns-in_err-push-clause-err : goal.returns-in_err-push-clause-err
returns-in_err-push-clause-err c =
    let bytes : List ℕ = c.self.inside.bytes.items in
    let now : List Said = c.keep_said.new.all.items in
    let still : map (frame_of_place bytes now) c.push.new.self.items ≡ c.args.self.now =
    ap (map (frame_of_place bytes now)) c.in_err-push.ensures.items
    ∙ (frames_longer bytes bytes c.self.inside.said.items now c.self.inside.places.items c.self.invariant (longer_same bytes bytes refl) c.keep_said.ensures.longer ∙ c.self.view_is) in
    on_err (map (frame_of_place bytes now) c.push.new.self.items ≡ c.args.self.now) c.from_residual-in_err-push.result still

-- the frame comes last
pub invariant_of-self-2 : goal.invariant_of-self-2
invariant_of-self-2 c =
    let bytes : List ℕ = c.self.inside.bytes.items in
    let now : List Said = c.keep_said.new.all.items in
    let its : KeptSpeech = record { place = c.in_ok-place.place; from = c.args.from; to = c.args.to } in
    subst (λ (ps : List SentPlace). All (IsPlace (length bytes) (length now)) ps) (sym c.in_ok-push.ensures.items)
    (places_more bytes bytes c.self.inside.said.items now c.self.inside.places.items (place.Said its) c.self.invariant (longer_same bytes bytes refl) c.keep_said.ensures.longer
    (slice_get_within now c.in_ok-place.place c.args.said.now c.in_ok-place.ensures.kept))

pub returns-clause-sent : goal.returns-clause-sent
returns-clause-sent c =
    let bytes : List ℕ = c.self.inside.bytes.items in
    let now : List Said = c.keep_said.new.all.items in
    let its : KeptSpeech = record { place = c.in_ok-place.place; from = c.args.from; to = c.args.to } in
    let f : Sent = said_to c.args.from c.args.to (body_said c.args.said.now) in
    ap (map (frame_of_place bytes now)) c.in_ok-push.ensures.items
    ∙ (frames_more bytes bytes c.self.inside.said.items now c.self.inside.places.items (place.Said its) f c.self.invariant (longer_same bytes bytes refl) c.keep_said.ensures.longer
    (said_frame now c.in_ok-place.place c.args.from c.args.to c.args.said.now c.in_ok-place.ensures.kept)
    ∙ ap (λ (fs : List Sent). fs ++ f ∷ []) c.self.view_is)
