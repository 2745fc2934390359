-- The frame in which a node sends what it says to another member. Source: this project's own layout.
use Rattle.std.specs.Prelude.{ℕ, ◌^◌, ◌==◌, ◌&&◌, nat_lt, Bool, true, List, ◌++◌, length, replicate}
use Rattle.std.specs.Prelude.{Some, None}
use Rattle.std.specs.declared.option.Option.{Option}
use Rattle.xl_base.specs.declared.ids.LedgerId.{LedgerId}
use Rattle.xl_wire.specs.declared.body.Body.{Body}
use Rattle.xl_wire.specs.declared.body.Body.TheVariants as bodies
use Rattle.xl_wire.specs.declared.frame.Frame.{Frame}
use Rattle.xl_wire.specs.Bodies.{set_bytes}
use Rattle.xl_wire.specs.Frames.{raw_of}
use Rattle.xl_wire.specs.Kinds.{can_have}
use Rattle.xl_wire.specs.Raws.{raw_bytes}
use Rattle.xl_tags.specs.Rings.{Ring}
use Rattle.xl_tags.specs.Sealing.{before_tag, sealed}
use Rattle.xl_core.specs.declared.sending.TagPlace.{TagPlace}
use Rattle.xl_core.specs.declared.sending.TagPlace.TheVariants.{Sealed, Blank}

-- a frame before it is sealed
abbrev pub blank_frame : ℕ → ℕ → Body → Frame
blank_frame from to body = record { from = from; to = to; body = body; tag = replicate 32 0 }

-- its bytes, sealed by the key that the ring has for its receiver
abbrev pub sealed_bytes : Ring → ℕ → ℕ → Body → List ℕ
sealed_bytes ring from to body = raw_bytes (sealed ring (raw_of (blank_frame from to body)))

-- an id has 32 bytes, if there is one
abbrev pub is_id : Option LedgerId → Bool
is_id None = true
is_id (Some id) = length id.0 == 32

-- whether the fields of a body can hold it
abbrev pub fits : Body → Bool
fits (bodies.Proposal p) =
    length p.prev.0 == 32 && length p.set.0 == 32
    && nat_lt p.pseq (2 ^ 32) && nat_lt p.close (2 ^ 32) && nat_lt p.time (2 ^ 32)
fits (bodies.Validation v) =
    length v.id.0 == 32 && nat_lt v.seq (2 ^ 32) && nat_lt v.signed (2 ^ 32) && is_id v.validated
fits (bodies.Header header) = length header == 118
fits (bodies.TxSet ids) = can_have 1 4 (length (set_bytes ids))
fits (bodies.Tx id) = length id.0 == 32

-- the test of `IsFrame`: what its fields can't hold has no spelling
abbrev pub has_spelling : ℕ → ℕ → Body → Bool
has_spelling from to body = nat_lt from (2 ^ 32) && nat_lt to (2 ^ 32) && fits body

-- a frame whose tag is cleared
abbrev pub without_tag : List ℕ → List ℕ
without_tag frame = before_tag frame ++ replicate 32 0

-- the keys by which frames are written: none if the place of the tag stays blank
abbrev pub keys_in : TagPlace → List (Option (List ℕ)) → List (Option (List ℕ))
keys_in Sealed keys = keys
keys_in Blank keys = replicate 64 None

abbrev pub keys_for : TagPlace → Ring → Ring
keys_for tags ring = record { me = ring.me; keys = keys_in tags ring.keys }
