-- The lines that `xl show` writes. Source: this project's own formats.
use Rattle.std.specs.Prelude.{ℕ, Bool, List, [], ◌∷◌, ◌++◌, length, decimal, codes, Option, Some, None, if◌then◌else◌}
use Rattle.hex.specs.Hex.{encode_lower}
use Rattle.xl_base.specs.declared.ids.LedgerId.{LedgerId}
use Rattle.xl_base.specs.Sets.{set_id_of}
use Rattle.xl_ledger.specs.declared.header.Header.{Header}
use Rattle.xl_ledger.specs.Headers.{header_id}
use Rattle.xl_ledger.specs.Reading.{header_in}
use Rattle.xl_show.specs.Limits.{most_bytes}
use Rattle.xl_wire.specs.declared.body.Body.{Body}
use Rattle.xl_wire.specs.declared.body.Body.TheVariants as body
use Rattle.xl_wire.specs.declared.frame.Frame.{Frame}
use Rattle.xl_wire.specs.declared.proposal.Proposal.{Proposal}
use Rattle.xl_wire.specs.declared.validation.Validation.{Validation}
use Rattle.xl_wire.specs.declared.refusal.WireRefusal.{WireRefusal}
use Rattle.xl_wire.specs.declared.refusal.WireRefusal.TheVariants.{Magic, Version, Kind, Length, Flags, Order, Count}
use Rattle.xl_wire.specs.Codes.{code_of}

abbrev pub space : List ℕ
space = codes " "

abbrev pub newline : List ℕ
newline = 10 ∷ []

-- ids are 64 lower-case digits
abbrev pub proposal_text : Proposal → List ℕ
proposal_text p =
    codes "proposal " ++ encode_lower p.prev.0 ++ space ++ encode_lower p.set.0 ++ space ++ decimal p.pseq
    ++ space ++ decimal p.close ++ space ++ decimal p.time

unfoldable pub fullness_text : Bool → List ℕ
fullness_text full = if full then codes "full" else codes "partial"

abbrev pub vote_text : Validation → List ℕ
vote_text v = decimal v.seq ++ space ++ encode_lower v.id.0 ++ space ++ decimal v.signed

-- the id of the ledger that was last reported, if there is one
abbrev pub validated_text : Option LedgerId → List ℕ
validated_text None = []
validated_text (Some id) = space ++ encode_lower id.0

abbrev pub validation_text : Validation → List ℕ
validation_text v = vote_text v ++ space ++ fullness_text v.full ++ validated_text v.validated

abbrev pub header_text : Header → List ℕ
header_text h =
    codes "header " ++ decimal h.seq ++ space ++ encode_lower (header_id h).0
    ++ space ++ encode_lower h.parent.0 ++ space ++ decimal h.close

abbrev pub body_text : Body → List ℕ
body_text (body.Proposal proposal) = proposal_text proposal
body_text (body.Validation validation) = codes "validation " ++ validation_text validation
body_text (body.Header bytes) = header_text (header_in bytes)
body_text (body.TxSet ids) = codes "set " ++ decimal (length ids) ++ space ++ encode_lower (set_id_of ids).0
body_text (body.Tx id) = codes "tx " ++ encode_lower id.0

-- who says what to whom
abbrev pub frame_line : Frame → List ℕ
frame_line f = codes "frame " ++ decimal f.from ++ space ++ decimal f.to ++ space ++ body_text f.body ++ newline

abbrev pub values_text : WireRefusal → List ℕ
values_text (Magic place) = decimal place
values_text (Version version) = decimal version
values_text (Kind kind) = decimal kind
values_text (Length kind length) = decimal kind ++ space ++ decimal length
values_text (Flags flags) = decimal flags
values_text (Order place) = decimal place
values_text (Count count) = decimal count

-- why the text ends at the frame that begins after this many bytes
abbrev pub bad_line : ℕ → ℕ → List ℕ → List ℕ
bad_line place code values = codes "bad " ++ decimal place ++ space ++ decimal code ++ space ++ values ++ newline

-- the bytes from there on are refused
abbrev pub refusal_line : ℕ → WireRefusal → List ℕ
refusal_line place refusal = bad_line place (code_of refusal) (values_text refusal)

-- the input ends within the frame, and this many bytes lack
abbrev pub short_line : ℕ → ℕ → List ℕ
short_line place lack = bad_line place 45 (decimal lack)

-- one byte too many comes
abbrev pub limit_line : List ℕ
limit_line = bad_line most_bytes 35 (decimal most_bytes)

-- this many frames were shown
abbrev pub count_line : ℕ → List ℕ
count_line count = codes "frames " ++ decimal count ++ newline
