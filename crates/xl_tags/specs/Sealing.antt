-- Sealed frames: the tag stands behind the bytes that it is of. Source: this project's own layout.
use Rattle.std.specs.Prelude.{◌≡◌, ℕ, ◌-◌, List, length, take, Option, option_map, unwrap_or, IsSome}
use Rattle.xl_wire.specs.Raws.{RawFrame, raw_bytes, SpellsRaw}
use Rattle.xl_tags.specs.Macs.{mac}
use Rattle.xl_tags.specs.Rings.{Ring, key_of}

-- all bytes of a frame but the 32 of its tag
abbrev pub before_tag : List ℕ → List ℕ
before_tag bytes = take (length bytes - 32) bytes

-- the tag of a frame under a member's key, if it has one
abbrev pub tag_by : Ring → ℕ → RawFrame → Option (List ℕ)
tag_by ring member f = option_map (λ key. mac key (before_tag (raw_bytes f))) (key_of ring member)

abbrev pub with_tag : RawFrame → List ℕ → RawFrame
with_tag f tag = record {
  version = f.version;
  kind = f.kind;
  from = f.from;
  to = f.to;
  body = f.body;
  tag = tag;
}

-- the frame with the tag under its receiver's key; if there is none, it is left as it is
abbrev pub sealed : Ring → RawFrame → RawFrame
sealed ring f = with_tag f (unwrap_or (tag_by ring f.to f) f.tag)

-- the frame as if its sender had sealed it: with the tag under its sender's key, if there is one
abbrev pub as_sealed : Ring → RawFrame → RawFrame
as_sealed ring f = with_tag f (unwrap_or (tag_by ring f.from f) f.tag)

-- the bytes are one whole frame
pub record IsWhole (bytes : List ℕ) : Type 0 where
  pub frame : RawFrame
  pub spells : SpellsRaw frame bytes

-- the bytes are one whole frame, from the ring's member to this one, which has a key
pub record IsToSeal (ring : Ring) (to : ℕ) (bytes : List ℕ) : Type 0 where
  pub frame : RawFrame
  pub spells : SpellsRaw frame bytes
  pub mine : frame.from ≡ ring.me
  pub theirs : frame.to ≡ to
  pub keyed : IsSome (key_of ring to)
