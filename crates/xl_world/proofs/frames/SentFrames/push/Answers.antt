use Rattle.std.proofs.Common.{◌≡◌, [], ◌∷◌, ◌++◌, ◌∙◌, List, ℕ, ap, length, map, refl, subst, sym}
use Rattle.std.specs.Prelude.{All, slice_get}
use Rattle.xl_world.specs.declared.frames.KeptBytes.{KeptBytes}
use Rattle.xl_world.specs.declared.frames.SentPlace.{SentPlace}
use Rattle.xl_world.specs.declared.frames.SentPlace.TheVariants as place
use Rattle.xl_world.specs.declared.said.Said.{Said}
use Rattle.xl_world.specs.Sending.{Sent, sent_as}
use Rattle.xl_world.specs.Worlds.{IsPlace, frame_of_place}
use Rattle.xl_world.proofs.Framing.{all_at, bytes_frame, frames_longer, frames_more, on_err, places_more, within_more}
use Rattle.xl_world.proofs.Growing.{longer_same}
use Rattle.xl_world.proofs.frames.SentFrames.push.Goals as goal

pub keep-requires : goal.keep-requires
keep-requires c = record {
  within = λ k p at. all_at (IsPlace (length c.self.inside.bytes.items) (length c.self.inside.said.items)) c.self.inside.places.items k (place.Bytes p) c.self.invariant
      (ap (λ (ps : List SentPlace). slice_get ps k) (sym c.deref-2.ensures.value) ∙ at);
}

-- more bytes are kept, and no frame among them
pub returns-in_err-begins-clause-err : goal.returns-in_err-begins-clause-err
returns-in_err-begins-clause-err c =
    let new : List ℕ = c.keep.new.bytes.items in
    let all : List Said = c.self.inside.said.items in
    let still : map (frame_of_place new all) c.self.inside.places.items ≡ c.args.self.now =
    frames_longer c.self.inside.bytes.items new all all c.self.inside.places.items c.self.invariant c.keep.ensures.longer (longer_same all all refl) ∙ c.self.view_is in
    on_err (map (frame_of_place new all) c.self.inside.places.items ≡ c.args.self.now) c.from_residual.result still

pub returns-in_err-push-clause-err : goal.returns-in_err-push-clause-err
returns-in_err-push-clause-err c =
    let new : List ℕ = c.keep.new.bytes.items in
    let all : List Said = c.self.inside.said.items in
    let still : map (frame_of_place new all) c.push.new.self.items ≡ c.args.self.now =
    ap (map (frame_of_place new all)) c.in_err-push.ensures.items
    ∙ (frames_longer c.self.inside.bytes.items new all all c.self.inside.places.items c.self.invariant c.keep.ensures.longer (longer_same all all refl) ∙ c.self.view_is) in
    on_err (map (frame_of_place new all) c.push.new.self.items ≡ c.args.self.now) c.from_residual-in_err-push.result still

-- the frame comes last
pub invariant_of-self-2 : goal.invariant_of-self-2
invariant_of-self-2 c =
    let new : List ℕ = c.keep.new.bytes.items in
    let all : List Said = c.self.inside.said.items in
    let kept : List ℕ = c.args.kept.now in
    let its : KeptBytes = record { begins = c.in_ok-begins.begins; length = length kept; from = c.args.from; to = c.args.to; address = c.address_of.result } in
    subst (λ (ps : List SentPlace). All (IsPlace (length new) (length all)) ps) (sym c.in_ok-push.ensures.items)
    (places_more c.self.inside.bytes.items new all all c.self.inside.places.items (place.Bytes its) c.self.invariant c.keep.ensures.longer (longer_same all all refl)
    (within_more new kept its c.in_ok-begins.ensures.kept refl c.requires.short))

pub returns-clause-sent : goal.returns-clause-sent
returns-clause-sent c =
    let new : List ℕ = c.keep.new.bytes.items in
    let all : List Said = c.self.inside.said.items in
    let kept : List ℕ = c.args.kept.now in
    let its : KeptBytes = record { begins = c.in_ok-begins.begins; length = length kept; from = c.args.from; to = c.args.to; address = c.address_of.result } in
    ap (map (frame_of_place new all)) c.in_ok-push.ensures.items
    ∙ (frames_more c.self.inside.bytes.items new all all c.self.inside.places.items (place.Bytes its) (sent_as c.args.from c.args.to kept) c.self.invariant c.keep.ensures.longer (longer_same all all refl)
    (bytes_frame new kept its c.in_ok-begins.ensures.kept refl c.address_of.ensures)
    ∙ ap (λ (fs : List Sent). fs ++ sent_as c.args.from c.args.to kept ∷ []) c.self.view_is)
