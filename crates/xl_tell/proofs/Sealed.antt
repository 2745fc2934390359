-- What a frame says doesn't hang on its tag.
use Rattle.std.proofs.Common.{◌≡◌, ℕ, List, [], length, refl, sym, ap, ◌∙◌, append-nil, true}
use Rattle.std.specs.Prelude.{Result, Ok, Err, nat_lt}
use Rattle.std.proofs.lemmas.Bool.{cond_both}
use Rattle.xl_core.specs.Hearing.{bytes_as_sealed, sealed_in}
use Rattle.xl_sched.specs.declared.named.Named.{Named}
use Rattle.xl_tags.specs.Rings.{Ring}
use Rattle.xl_tags.specs.Sealing.{as_sealed, with_tag}
use Rattle.xl_tags.proofs.OpeningLaws.{IsRaw-as_sealed}
use Rattle.xl_told.specs.Bodies.{said_text}
use Rattle.xl_wire.specs.declared.body.Body.{Body}
use Rattle.xl_wire.specs.declared.refusal.WireRefusal.{WireRefusal}
use Rattle.xl_wire.specs.Bodies.{body_of}
use Rattle.xl_wire.specs.Frames.{decoded_of, with_bodies, with_body}
use Rattle.xl_wire.specs.Heads.{Split, split_of}
use Rattle.xl_wire.specs.Heads.Split.{Whole, Need, Refused}
use Rattle.xl_wire.specs.Kinds.{span}
use Rattle.xl_wire.specs.Raws.{IsRaw, RawFrame, raw_bytes}
use Rattle.xl_wire.proofs.Numbers.{IsBytes}
use Rattle.xl_wire.proofs.BodyLaws.{body_again}
use Rattle.xl_wire.proofs.RawLaws.{split_again, split_spelled}
use Rattle.xl_wire.specs.Bodies.{IsBody}
use Rattle.xl_wire.specs.Frames.{raw_of}
use Rattle.xl_core.specs.Sending.{blank_frame, has_spelling, sealed_bytes}
use Rattle.xl_core.proofs.Spelling.{sealed_raw}
use Rattle.xl_tags.specs.Sealing.{sealed}
use Rattle.xl_told.specs.Bodies.{body_text}
use Rattle.xl_tell.specs.Echoes.{parts_text}

-- what a frame says, by its parts
parts_said : (names : List Named) (f : RawFrame) (body : Result Body WireRefusal) → said_text names (with_body f body) ≡ parts_text names body
parts_said names f (Ok body) = refl
parts_said names f (Err why) = refl

-- a frame with another tag
tagged : (names : List Named) (f : RawFrame) (tag : List ℕ) → said_text names (with_bodies (Whole (with_tag f tag))) ≡ said_text names (with_bodies (Whole f))
tagged names f tag = parts_said names (with_tag f tag) (body_of f.kind f.body) ∙ sym (parts_said names f (body_of f.kind f.body))

-- the bytes of a frame are split into its parts
pub split_whole : (f : RawFrame) → IsRaw f → split_of (raw_bytes f) ≡ Whole f
split_whole f ok = ap split_of (sym (append-nil (raw_bytes f))) ∙ split_again f [] ok

module _ (names : List Named) (ring : Ring) (bytes : List ℕ) (fits : IsBytes bytes) where
  whole : (f : RawFrame) → split_of bytes ≡ Whole f → said_text names (decoded_of (raw_bytes (as_sealed ring f))) ≡ said_text names (decoded_of bytes)
  whole f is =
      let g : RawFrame = as_sealed ring f in
      let again : split_of (raw_bytes g) ≡ Whole g = split_whole g (IsRaw-as_sealed ring f (split_spelled bytes f fits is).frame) in
      ap (λ (s : Split). said_text names (with_bodies s)) again
      ∙ (tagged names f g.tag ∙ sym (ap (λ (s : Split). said_text names (with_bodies s)) is))

  by_split : (s : Split) → split_of bytes ≡ s → said_text names (decoded_of (sealed_in ring bytes s)) ≡ said_text names (decoded_of bytes)
  by_split (Refused why) is = refl
  by_split (Need lack) is = refl
  by_split (Whole f) is =
      cond_both (nat_lt (span f.body) (length bytes)) bytes (raw_bytes (as_sealed ring f)) (λ (sent : List ℕ). said_text names (decoded_of sent) ≡ said_text names (decoded_of bytes))
      (λ _. refl) (λ _. whole f is)

  pub said_sealed : said_text names (decoded_of (bytes_as_sealed ring bytes)) ≡ said_text names (decoded_of bytes)
  said_sealed = by_split (split_of bytes) refl

pub bytes_said : (names : List Named) (bytes : List ℕ) (f : RawFrame) → split_of bytes ≡ Whole f → said_text names (decoded_of bytes) ≡ parts_text names (body_of f.kind f.body)
bytes_said names bytes f is = ap (λ (s : Split). said_text names (with_bodies s)) is ∙ parts_said names f (body_of f.kind f.body)

-- a frame that is sealed by a ring says its body
pub said_body : (names : List Named) (ring : Ring) (from to : ℕ) (body : Body) → has_spelling from to body ≡ true → IsBody body → said_text names (decoded_of (sealed_bytes ring from to body)) ≡ body_text names body
said_body names ring from to body spelled fits =
    let f : RawFrame = sealed ring (raw_of (blank_frame from to body)) in
    let whole : split_of (raw_bytes f) ≡ Whole f = split_whole f (sealed_raw ring from to body spelled) in
    ap (λ (s : Split). said_text names (with_bodies s)) whole
    ∙ ap (λ (r : Result Body WireRefusal). said_text names (with_body f r)) (body_again body fits)
