-- The frame of a lie is heard as it is sealed, and a declared liar's is never forged.
use Rattle.std.proofs.Common.{◌≡◌, ℕ, List, [], length, replicate, refl, arith, ap, sym, ◌∙◌, inl, inr, Bool, true, false, append-nil}
use Rattle.std.specs.Prelude.{◌==◌, ◌&&◌, nat_le, not}
use Rattle.std.proofs.lemmas.Bool.{cases_eq}
use Rattle.xl_lists.specs.Lists.{is_on}
use Rattle.xl_wire.specs.Frames.{raw_of}
use Rattle.xl_wire.specs.Heads.{split_of}
use Rattle.xl_wire.specs.Kinds.{span}
use Rattle.xl_wire.specs.Raws.{IsRaw, RawFrame, raw_bytes}
use Rattle.xl_wire.specs.declared.body.Body.{Body}
use Rattle.xl_wire.proofs.RawLaws.{split_again}
use Rattle.xl_tags.specs.Opening.{is_sealed}
use Rattle.xl_tags.specs.Rings.{Ring, schedule_ring}
use Rattle.xl_tags.specs.Sealing.{as_sealed, with_tag}
use Rattle.xl_tags.proofs.OpeningLaws.{IsRaw-as_sealed}
use Rattle.xl_core.specs.Hearing.{bytes_as_sealed}
use Rattle.xl_core.specs.Sending.{blank_frame, has_spelling, sealed_bytes}
use Rattle.xl_core.proofs.Heard.{as_sealed_bytes}
use Rattle.xl_core.proofs.Spelling.{sealed_raw}
use Rattle.xl_world.specs.Forgeries.{forges, was_sent}
use Rattle.xl_world.specs.Sending.{Sent}
use Rattle.xl_world.proofs.Lying.{key_of_own, keyless, unsealed}
use Rattle.xl_world.proofs.Sealing.{IsNumber, sealed_anyhow, tag_kept}

-- its receiver takes the blank frame for the sealed one; a number has no key for itself, and its frame stays blank
pub heard_sealed : (from to : ℕ) (body : Body) → IsNumber from → IsNumber to → IsRaw (raw_of (blank_frame from to body)) →
    bytes_as_sealed (schedule_ring to) (raw_bytes (raw_of (blank_frame from to body))) ≡ sealed_bytes (schedule_ring from) from to body
heard_sealed from to body mine its ok =
    let f : RawFrame = raw_of (blank_frame from to body) in
    elim (cases_eq to from) [
      | inl same ↦
          as_sealed_bytes (schedule_ring to) (raw_bytes f) f (record { frame = ok; spelling = refl })
          ∙ ap (λ (t : List ℕ). raw_bytes (with_tag f t)) (tag_kept to f (key_of_own to from mine.0 mine.1 (sym same)))
          ∙ sym (ap raw_bytes (unsealed (schedule_ring from) f (keyless from to f its.0 its.1 same refl)))
      | inr other ↦ sealed_anyhow from to f (replicate 32 0) ok refl refl refl mine its other
    ]

-- what a liar signed isn't forged
fair : (last mine liar new right : Bool) → liar ≡ true → (last && (mine && not liar && new && right)) ≡ false
fair last mine liar new right h = grind arith

pub liar_fair : (liars : List ℕ) (sent : List Sent) (keys : Ring) (f : RawFrame) → IsRaw f → is_on liars f.from ≡ true → forges liars sent keys (raw_bytes f) (split_of (raw_bytes f)) ≡ false
liar_fair liars sent keys f ok liar =
    ap (forges liars sent keys (raw_bytes f)) (ap split_of (sym (append-nil (raw_bytes f))) ∙ split_again f [] ok)
    ∙ fair (nat_le (length (raw_bytes f)) (span f.body)) (f.to == keys.me) (is_on liars f.from) (not (was_sent sent (raw_bytes f))) (is_sealed keys f) liar

-- so a declared liar's lie isn't
pub lie_fair : (liars : List ℕ) (sent : List Sent) (keys : Ring) (from to : ℕ) (body : Body) → IsRaw (raw_of (blank_frame from to body)) →
    bytes_as_sealed (schedule_ring to) (raw_bytes (raw_of (blank_frame from to body))) ≡ sealed_bytes (schedule_ring from) from to body → is_on liars from ≡ true →
    forges liars sent keys (sealed_bytes (schedule_ring from) from to body) (split_of (sealed_bytes (schedule_ring from) from to body)) ≡ false
lie_fair liars sent keys from to body ok heard liar =
    let f : RawFrame = raw_of (blank_frame from to body) in
    let is : sealed_bytes (schedule_ring from) from to body ≡ raw_bytes (as_sealed (schedule_ring to) f) =
    sym heard ∙ as_sealed_bytes (schedule_ring to) (raw_bytes f) f (record { frame = ok; spelling = refl }) in
    ap (λ (bytes : List ℕ). forges liars sent keys bytes (split_of bytes)) is ∙ liar_fair liars sent keys (as_sealed (schedule_ring to) f) (IsRaw-as_sealed (schedule_ring to) f ok) liar

-- nor is what has a spelling
pub spelled_fair : (liars : List ℕ) (sent : List Sent) (keys : Ring) (from to : ℕ) (body : Body) → IsNumber from → IsNumber to → has_spelling from to body ≡ true → is_on liars from ≡ true →
    forges liars sent keys (sealed_bytes (schedule_ring from) from to body) (split_of (sealed_bytes (schedule_ring from) from to body)) ≡ false
spelled_fair liars sent keys from to body mine its spelled liar =
    let s = sealed_raw (schedule_ring from) from to body spelled in
    let ok : IsRaw (raw_of (blank_frame from to body)) = record { lawful = s.lawful; from = s.from; to = s.to; tag = refl } in
    lie_fair liars sent keys from to body ok (heard_sealed from to body mine its ok) liar
