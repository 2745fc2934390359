-- Writing: how long a frame is. Source: this project's own layout.
use Rattle.std.specs.Prelude.{ℕ, ◌+◌, ◌*◌, length}
use Rattle.std.specs.Prelude.{Some, None}
use Rattle.std.specs.declared.option.Option.{Option}
use Rattle.xl_base.specs.declared.ids.LedgerId.{LedgerId}
use Rattle.xl_wire.specs.declared.body.Body.{Body}
use Rattle.xl_wire.specs.declared.body.Body.TheVariants as bodies
use Rattle.xl_wire.specs.declared.frame.Frame.{Frame}

abbrev pub validated_length : Option LedgerId → ℕ
validated_length None = 0
validated_length (Some id) = 32

-- how many bytes a body has, by its kind
abbrev pub body_length : Body → ℕ
body_length (bodies.Proposal proposal) = 76
body_length (bodies.Validation validation) = 41 + validated_length validation.validated
body_length (bodies.Header header) = 118
body_length (bodies.TxSet ids) = 2 + 32 * length ids
body_length (bodies.Tx id) = 32

abbrev pub frame_length : Frame → ℕ
frame_length f = 46 + body_length f.body
