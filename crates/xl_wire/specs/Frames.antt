-- Frames: the one spelling of each, and what bytes begin with. Source: this project's own layout.
use Rattle.std.specs.Prelude.{◌≡◌, ℕ, ◌^◌, ◌<◌, ◌≤◌, List, length, take, Result, Ok, Err}
use Rattle.xl_wire.specs.declared.body.Body.{Body}
use Rattle.xl_wire.specs.declared.frame.Frame.{Frame}
use Rattle.xl_wire.specs.declared.decoding.Decoded.{Decoded}
use Rattle.xl_wire.specs.declared.decoding.Decoded.TheVariants as decoded
use Rattle.xl_wire.specs.declared.refusal.WireRefusal.{WireRefusal}
use Rattle.xl_wire.specs.Bodies.{IsBody, version_of, kind_of, body_bytes, body_of}
use Rattle.xl_wire.specs.Heads.{Split, split_of}
use Rattle.xl_wire.specs.Heads.Split.{Whole, Need, Refused}
use Rattle.xl_wire.specs.Kinds.{span}
use Rattle.xl_wire.specs.Raws.{RawFrame, raw_bytes}

-- the frame with its body's bytes
abbrev pub raw_of : Frame → RawFrame
raw_of f = record {
  version = version_of f.body;
  kind = kind_of f.body;
  from = f.from;
  to = f.to;
  body = body_bytes f.body;
  tag = f.tag;
}

abbrev pub frame_bytes : Frame → List ℕ
frame_bytes f = raw_bytes (raw_of f)

-- what has a spelling
pub record IsFrame (f : Frame) : Type 0 where
  pub body : IsBody f.body
  pub from : f.from < 2 ^ 32
  pub to : f.to < 2 ^ 32
  pub tag : length f.tag ≡ 32

-- these bytes, all of them, spell the frame
pub record Spells (f : Frame) (bytes : List ℕ) : Type 0 where
  pub frame : IsFrame f
  pub spelling : bytes ≡ frame_bytes f

-- the first n bytes spell the frame
pub record SpellsFirst (f : Frame) (n : ℕ) (bytes : List ℕ) : Type 0 where
  pub there : n ≤ length bytes
  pub spells : Spells f (take n bytes)

abbrev pub with_body : RawFrame → Result Body WireRefusal → Decoded
with_body raw (Ok body) =
    decoded.Whole (record { from = raw.from; to = raw.to; body = body; tag = raw.tag }) (span raw.body)
with_body raw (Err refusal) = decoded.Refused refusal

abbrev pub with_bodies : Split → Decoded
with_bodies (Whole raw) = with_body raw (body_of raw.kind raw.body)
with_bodies (Need lack) = decoded.Need lack
with_bodies (Refused refusal) = decoded.Refused refusal

-- the frame that the bytes begin with, and its length: what is split off, with its body read
abbrev pub decoded_of : List ℕ → Decoded
decoded_of bytes = with_bodies (split_of bytes)
