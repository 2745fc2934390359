-- What a node hears in bytes: the first of a list of causes for which it hears nothing, or what is said and by whom.
-- Source: the order of the causes is this profile's.
use Rattle.std.specs.Prelude.{◌≡◌, ◌≢◌, ℕ, ◌-◌, nat_lt, List, [], ◌∷◌, length, take, Option, Some, option_map, Result, Ok, Err, IsTrue, if◌then◌else◌}
use Rattle.xl_base.specs.Refusals.{refused_if, first_of, unless_refused}
use Rattle.xl_lists.specs.Lists.{is_on}
use Rattle.xl_wire.specs.declared.body.Body.{Body}
use Rattle.xl_wire.specs.declared.body.Body.TheVariants as bodies
use Rattle.xl_wire.specs.declared.refusal.WireRefusal.{WireRefusal}
use Rattle.xl_wire.specs.Bodies.{body_refusal, body_in, SpellsBody}
use Rattle.xl_wire.specs.Heads.{head_refusal, lacking, raw_in, split_of, Split}
use Rattle.xl_wire.specs.Heads.Split.{Whole, Need, Refused}
use Rattle.xl_wire.specs.Kinds.{span}
use Rattle.xl_wire.specs.Raws.{RawFrame, SpellsRaw, raw_bytes}
use Rattle.xl_tags.specs.Opening.{refusal_of}
use Rattle.xl_tags.specs.Rings.{Ring}
use Rattle.xl_tags.specs.Sealing.{as_sealed, tag_by, with_tag}
use Rattle.xl_ledger.specs.Reading.{header_in}
use Rattle.xl_core.specs.declared.hearing.Spoken.{Spoken}
use Rattle.xl_core.specs.declared.hearing.Speech.{Speech}
use Rattle.xl_core.specs.declared.hearing.Speech.TheVariants as speech
use Rattle.xl_core.specs.declared.hearing.Tags.{Tags}
use Rattle.xl_core.specs.declared.hearing.Tags.TheVariants.{Tested, Assumed}
use Rattle.xl_core.specs.declared.refusal.Refusal.{Refusal}
use Rattle.xl_core.specs.declared.refusal.Refusal.TheVariants.{Frame, Tag, Short, Extra}

-- why nothing is heard in bytes, of which the first are a frame if they begin with one
abbrev pub causes : Ring → List ℕ → List ℕ → RawFrame → List (Option Refusal)
causes ring members bytes f =
    option_map Frame (head_refusal bytes)
    ∷ refused_if (nat_lt 0 (lacking bytes)) (Short (lacking bytes))
    ∷ refused_if (nat_lt (span f.body) (length bytes)) (Extra (length bytes - span f.body))
    ∷ option_map Tag (refusal_of ring members f)
    ∷ option_map Frame (body_refusal f.kind f.body)
    ∷ []

-- the first of these causes decides
abbrev pub hearing_refusal : Ring → List ℕ → List ℕ → Option Refusal
hearing_refusal ring members bytes = first_of (causes ring members bytes (raw_in bytes))

-- what a body says
abbrev pub speech_of : Body → Speech
speech_of (bodies.Proposal p) = speech.Proposal p
speech_of (bodies.Validation v) = speech.Validation v
speech_of (bodies.Header header) = speech.Header (header_in header)
speech_of (bodies.TxSet ids) = speech.TxSet ids
speech_of (bodies.Tx id) = speech.Tx id

-- what a frame says, and its sender
abbrev pub said_in : RawFrame → Spoken
said_in f = record { from = f.from; what = speech_of (body_in f.kind f.body) }

-- what a node with these keys and these listed members hears in bytes
abbrev pub spoken_in : Ring → List ℕ → List ℕ → Result Spoken Refusal
spoken_in ring members bytes = unless_refused (hearing_refusal ring members bytes) (said_in (raw_in bytes))

-- the bytes begin with this frame
pub record BeginsWith (f : RawFrame) (bytes : List ℕ) : Type 0 where
  pub split : split_of bytes ≡ Whole f
  pub spelled : SpellsRaw f (take (span f.body) bytes)

-- what is heard in it, by who sent it and by what its body reads as
abbrev pub heard_so : Result ℕ Refusal → Result Body WireRefusal → Result Spoken Refusal
heard_so (Err why) body = Err why
heard_so (Ok from) (Err why) = Err (Frame why)
heard_so (Ok from) (Ok body) = Ok (record { from = from; what = speech_of body })

-- bytes are a frame to the keys' member from another listed one, with the tag of their key, and the frame has this body
pub record Carries (ring : Ring) (members bytes : List ℕ) (f : RawFrame) (body : Body) : Type 0 where
  pub frame : SpellsRaw f bytes
  pub mine : f.to ≡ ring.me
  pub other : f.from ≢ ring.me
  pub listed : IsTrue (is_on members f.from)
  pub tag : tag_by ring f.from f ≡ Some f.tag
  pub says : SpellsBody body f.kind f.body

-- bytes as if their sender had sealed them, if they are one whole frame; else they stay as they are
abbrev pub sealed_in : Ring → List ℕ → Split → List ℕ
sealed_in ring bytes (Refused why) = bytes
sealed_in ring bytes (Need lack) = bytes
sealed_in ring bytes (Whole f) = if nat_lt (span f.body) (length bytes) then bytes else raw_bytes (as_sealed ring f)

abbrev pub bytes_as_sealed : Ring → List ℕ → List ℕ
bytes_as_sealed ring bytes = sealed_in ring bytes (split_of bytes)

-- the bytes that are heard if the tag is tested, and if it is taken as the right one
abbrev pub bytes_with : Tags → Ring → List ℕ → List ℕ
bytes_with Tested ring bytes = bytes
bytes_with Assumed ring bytes = bytes_as_sealed ring bytes

-- and the frame
abbrev pub tag_with : Tags → Ring → RawFrame → List ℕ
tag_with Tested ring f = f.tag
tag_with Assumed ring f = (as_sealed ring f).tag

abbrev pub frame_with : Tags → Ring → RawFrame → RawFrame
frame_with tags ring f = with_tag f (tag_with tags ring f)
