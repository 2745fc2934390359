-- What bytes begin with: a refusal, as soon as they show it, or a frame, or less than one.
-- Source: this project's own layout, and the order in which its bytes are tested.
use Rattle.std.specs.Prelude.{ℕ, zero, suc, ◌+◌, ◌-◌, ◌==◌, ◌&&◌, not, nat_lt, Bool, List, [], ◌∷◌, length, take, drop, slice_index, Option, Some, None, if◌then◌else◌}
use Rattle.byteorder.specs.Endian.{big_number}
use Rattle.xl_base.specs.Refusals.{refused_if, first_of}
use Rattle.xl_wire.specs.declared.refusal.WireRefusal.{WireRefusal}
use Rattle.xl_wire.specs.declared.refusal.WireRefusal.TheVariants.{Magic, Version, Kind, Length}
use Rattle.xl_wire.specs.declared.splitting.Parted.{Parted}
use Rattle.xl_wire.specs.declared.splitting.Parted.TheVariants as parted
use Rattle.xl_wire.specs.Kinds.{is_version, is_kind, can_have}
use Rattle.xl_wire.specs.Raws.{RawFrame, raw_frame}

-- the byte at this place is there, and isn't the wanted one
abbrev pub differs : List ℕ → ℕ → ℕ → Bool
differs bytes place wanted = nat_lt place (length bytes) && not (slice_index bytes place == wanted)

abbrev pub version_in : List ℕ → ℕ
version_in bytes = slice_index bytes 2

abbrev pub kind_in : List ℕ → ℕ
kind_in bytes = slice_index bytes 3

abbrev pub length_in : List ℕ → ℕ
length_in bytes = big_number 2 (drop 4 bytes)

-- the first cause that the bytes show
abbrev pub head_refusal : List ℕ → Option WireRefusal
head_refusal bytes = first_of (
    refused_if (differs bytes 0 0x58) (Magic 0)
    ∷ refused_if (differs bytes 1 0x4C) (Magic 1)
    ∷ refused_if (nat_lt 2 (length bytes) && not (is_version (version_in bytes))) (Version (version_in bytes))
    ∷ refused_if (nat_lt 3 (length bytes) && not (is_kind (version_in bytes) (kind_in bytes))) (Kind (kind_in bytes))
    ∷ refused_if (nat_lt 5 (length bytes) && not (can_have (version_in bytes) (kind_in bytes) (length_in bytes)))
    (Length (kind_in bytes) (length_in bytes))
    ∷ [])

-- how many bytes lack: of the length, and once that is there, of the frame
abbrev pub lacking : List ℕ → ℕ
lacking bytes = if nat_lt (length bytes) 6 then 6 - length bytes else 46 + length_in bytes - length bytes

-- what the fields hold
abbrev pub raw_in : List ℕ → RawFrame
raw_in bytes = record {
  version = version_in bytes;
  kind = kind_in bytes;
  from = big_number 4 (drop 6 bytes);
  to = big_number 4 (drop 10 bytes);
  body = take (length_in bytes) (drop 14 bytes);
  tag = take 32 (drop (14 + length_in bytes) bytes);
}

-- the frame that the bytes begin with, how many bytes it lacks, or why there is none
pub data Split : Type 0 where
  Whole : RawFrame → Split
  Need : ℕ → Split
  Refused : WireRefusal → Split

abbrev pub split_unless : Option WireRefusal → ℕ → RawFrame → Split
split_unless (Some refusal) lack raw = Refused refusal
split_unless None (suc lack) raw = Need (suc lack)
split_unless None zero raw = Whole raw

abbrev pub split_of : List ℕ → Split
split_of bytes = split_unless (head_refusal bytes) (lacking bytes) (raw_in bytes)

abbrev pub parts : Parted → Split
parts (parted.Whole raw) = Whole (raw_frame raw)
parts (parted.Need lack) = Need lack
parts (parted.Refused refusal) = Refused refusal
