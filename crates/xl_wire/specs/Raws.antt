-- Frames whose body isn't read: the one spelling of each. Source: this project's own layout.
use Rattle.std.specs.Prelude.{◌≡◌, ℕ, ◌^◌, ◌<◌, List, [], ◌∷◌, ◌++◌, length}
use Rattle.byteorder.specs.Endian.{big_bytes}
use Rattle.xl_wire.specs.declared.raw.Raw.{Raw}
use Rattle.xl_wire.specs.Kinds.{IsLawful}

-- a frame without where it lies in memory
pub record RawFrame : Type 0 where
  pub version : ℕ
  pub kind : ℕ
  pub from : ℕ
  pub to : ℕ
  pub body : List ℕ
  pub tag : List ℕ

-- the mark, the version, the kind, the body's length, the sender, the receiver, the body, the tag
abbrev pub raw_bytes : RawFrame → List ℕ
raw_bytes f =
    (0x58 ∷ 0x4C ∷ f.version ∷ f.kind ∷ []) ++ big_bytes 2 (length f.body)
    ++ big_bytes 4 f.from ++ big_bytes 4 f.to ++ f.body ++ f.tag

-- what has a spelling
pub record IsRaw (f : RawFrame) : Type 0 where
  pub lawful : IsLawful f.version f.kind f.body
  pub from : f.from < 2 ^ 32
  pub to : f.to < 2 ^ 32
  pub tag : length f.tag ≡ 32

-- these bytes, all of them, spell the frame
pub record SpellsRaw (f : RawFrame) (bytes : List ℕ) : Type 0 where
  pub frame : IsRaw f
  pub spelling : bytes ≡ raw_bytes f

abbrev pub raw_frame : Raw → RawFrame
raw_frame raw = record {
  version = raw.version;
  kind = raw.kind;
  from = raw.from;
  to = raw.to;
  body = raw.body.now;
  tag = raw.tag;
}
