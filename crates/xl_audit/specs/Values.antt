-- The values of a refusal, as a journal writes them. Source: this project's own formats.
use Rattle.std.specs.Prelude.{ℕ, List, ◌++◌, decimal, codes}
use Rattle.hex.specs.Hex.{encode_lower}
use Rattle.xl_core.specs.declared.refusal.Refusal.{Refusal}
use Rattle.xl_core.specs.declared.refusal.Refusal.TheVariants.{Frame, Short, Extra, Tag, Header, Stale, Repeat, Conflict, OldSeq, Pending, PoolFull, WrongPrev, OldPosition, Left, StaleProposal, NotAfter, IssuingOff, KeepFault, NoKey}
use Rattle.xl_ledger.specs.declared.refusal.AddRefusal.{AddRefusal}
use Rattle.xl_ledger.specs.declared.refusal.AddRefusal.TheVariants as header
use Rattle.xl_tags.specs.declared.refusal.TagRefusal.{TagRefusal}
use Rattle.xl_tags.specs.declared.refusal.TagRefusal.TheVariants.{NotForMe, Stranger, BadTag}
use Rattle.xl_wire.specs.declared.refusal.WireRefusal.{WireRefusal}
use Rattle.xl_wire.specs.declared.refusal.WireRefusal.TheVariants as wire

abbrev pub space : List ℕ
space = codes " "

-- the values of why bytes are no frame
abbrev pub frame_values : WireRefusal → List ℕ
frame_values (wire.Magic place) = decimal place
frame_values (wire.Version version) = decimal version
frame_values (wire.Kind kind) = decimal kind
frame_values (wire.Length kind length) = decimal kind ++ space ++ decimal length
frame_values (wire.Flags flags) = decimal flags
frame_values (wire.Order place) = decimal place
frame_values (wire.Count count) = decimal count

-- the values of why a frame isn't opened; tags are 64 lower-case digits
abbrev pub tag_values : TagRefusal → List ℕ
tag_values (NotForMe to) = decimal to
tag_values (Stranger from) = decimal from
tag_values (BadTag read computed) = encode_lower read ++ space ++ encode_lower computed

-- the values of why a header isn't added; of a wrong sequence the parent's comes first
abbrev pub header_values : AddRefusal → List ℕ
header_values (header.Known id) = encode_lower id.0
header_values (header.Orphan parent) = encode_lower parent.0
header_values (header.WrongSeq parent own) = decimal parent ++ space ++ decimal own
header_values (header.Full limit) = decimal limit

-- the values of a refusal, parted by spaces; ids are 64 lower-case digits
abbrev pub values_text : Refusal → List ℕ
values_text (Frame why) = frame_values why
values_text (Short lack) = decimal lack
values_text (Extra more) = decimal more
values_text (Tag why) = tag_values why
values_text (Header why) = header_values why
values_text (Stale now signed) = decimal now ++ space ++ decimal signed
values_text (Repeat id) = encode_lower id.0
values_text (Conflict id) = encode_lower id.0
values_text (OldSeq largest) = decimal largest
values_text (Pending tx) = encode_lower tx.0
values_text (PoolFull most) = decimal most
values_text (WrongPrev ours) = encode_lower ours.0
values_text (OldPosition kept) = decimal kept
values_text (Left member) = decimal member
values_text (StaleProposal now) = decimal now
values_text (NotAfter kept) = decimal kept
values_text (IssuingOff failed) = decimal failed
values_text (KeepFault count) = decimal count
values_text (NoKey member) = decimal member
