-- What frames say: the frame of a validation says it, and so does what is heard in bytes.
use Rattle.std.proofs.Common.{◌≡◌, ℕ, Bool, true, false, List, [], refl, ap, sym, ◌∙◌, Option, Some, None}
use Rattle.std.proofs.lemmas.List.{append-nil}
use Rattle.xl_wire.specs.declared.body.Body.TheVariants as bodies
use Rattle.xl_wire.specs.declared.validation.Validation.{Validation}
use Rattle.xl_wire.specs.Heads.{split_of}
use Rattle.xl_wire.specs.Heads.Split.{Whole}
use Rattle.xl_wire.specs.Raws.{RawFrame, raw_bytes}
use Rattle.xl_wire.proofs.BodyLaws.{body_again}
use Rattle.xl_wire.proofs.RawLaws.{split_again}
use Rattle.xl_tags.specs.Rings.{Ring}
use Rattle.xl_tags.specs.Sealing.{sealed}
use Rattle.xl_wire.specs.Frames.{raw_of}
use Rattle.xl_base.specs.Refusals.{unless_refused}
use Rattle.xl_wire.specs.declared.body.Body.{Body}
use Rattle.xl_wire.specs.declared.refusal.WireRefusal.{WireRefusal}
use Rattle.xl_wire.specs.Bodies.{kind_of, body_bytes, body_of, body_refusal, set_bytes}
use Rattle.xl_wire.specs.Bodies.{body_in as wire_body}
use Rattle.xl_core.specs.Sending.{blank_frame, sealed_bytes, has_spelling}
use Rattle.xl_core.proofs.Heard.{IsHeard, sender, validation_body}
use Rattle.xl_core.proofs.Spelling.{held, sealed_raw}
use Rattle.xl_core.specs.declared.hearing.Speech.TheVariants as speech
use Rattle.xl_world.specs.World.{said_by}
use Rattle.xl_world.proofs.Standing.{said_in, said_in_body, said_in_split}

-- so it says the validation
pub sealed_said : (ring : Ring) (from to : ℕ) (v : Validation) → has_spelling from to (bodies.Validation v) ≡ true → said_in (sealed_bytes ring from to (bodies.Validation v)) ≡ Some (said_by from v)
sealed_said ring from to v h =
    let f : RawFrame = sealed ring (raw_of (blank_frame from to (bodies.Validation v))) in
    let whole : split_of (raw_bytes f) ≡ Whole f = ap split_of (sym (append-nil (raw_bytes f))) ∙ split_again f [] (sealed_raw ring from to (bodies.Validation v) h) in
    ap said_in_split whole ∙ ap (said_in_body from) (body_again (bodies.Validation v) (held from to v h).body)

-- the frame of another body says none
abbrev pub is_other : Body → Bool
is_other (bodies.Validation v) = false
is_other other = true

false_true : false ≡ true → ⊥
false_true e = cc

other_body : (from : ℕ) (body : Body) → is_other body ≡ true → said_in_body from (body_of (kind_of body) (body_bytes body)) ≡ None
other_body from (bodies.Proposal p) e = refl
other_body from (bodies.Validation v) e = absurd (false_true e)
other_body from (bodies.Header header) e = refl
other_body from (bodies.TxSet ids) e = by (body_refusal 4 (set_bytes ids))
  where
    by : (o : Option WireRefusal) → said_in_body from (unless_refused o (wire_body 4 (set_bytes ids))) ≡ None
    by None = refl
    by (Some why) = refl
other_body from (bodies.Tx id) e = refl

pub sealed_else : (ring : Ring) (from to : ℕ) (body : Body) → has_spelling from to body ≡ true → is_other body ≡ true → said_in (sealed_bytes ring from to body) ≡ None
sealed_else ring from to body h other =
    let f : RawFrame = sealed ring (raw_of (blank_frame from to body)) in
    let whole : split_of (raw_bytes f) ≡ Whole f = ap split_of (sym (append-nil (raw_bytes f))) ∙ split_again f [] (sealed_raw ring from to body h) in
    ap said_in_split whole ∙ other_body from body other

-- what is heard in bytes is what they say
pub heard_said : (ring : Ring) (members bytes : List ℕ) (from : ℕ) (v : Validation) → IsHeard ring members bytes (record { from = from; what = speech.Validation v }) → said_in bytes ≡ Some (said_by from v)
heard_said ring members bytes from v h =
    ap said_in_split h.split
    ∙ ap (said_in_body h.frame.from) (validation_body ring members bytes from v h)
    ∙ ap (λ (m : ℕ). Some (said_by m v)) (sym (sender ring members bytes (record { from = from; what = speech.Validation v }) h))
