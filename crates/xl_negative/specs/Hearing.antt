-- What nodes hear of validations: those in the frames that are handed to them, and those that they issue. Source: this
-- project's negative lists.
use Rattle.std.specs.Prelude.{ℕ, Bool, ◌==◌, ◌&&◌, not, nat_le, List, [], ◌++◌, drop, length, map, Result, Ok, Err, option_map, option_to_list, if◌then◌else◌}
use Rattle.std.specs.Prelude.{Some, None}
use Rattle.std.specs.declared.option.Option.{Option}
use Rattle.std.specs.List.{flat_map}
use Rattle.xl_lists.specs.declared.said.SaidLedger.{SaidLedger}
use Rattle.xl_lists.specs.Lists.{is_outside}
use Rattle.xl_wire.specs.declared.body.Body.{Body}
use Rattle.xl_wire.specs.declared.body.Body.TheVariants as bodies
use Rattle.xl_wire.specs.declared.refusal.WireRefusal.{WireRefusal}
use Rattle.xl_wire.specs.Bodies.{body_of}
use Rattle.xl_wire.specs.Heads.{split_of, Split}
use Rattle.xl_wire.specs.Heads.Split.{Whole, Need, Refused}
use Rattle.xl_wire.specs.Kinds.{span}
use Rattle.xl_wire.specs.Raws.{RawFrame}
use Rattle.xl_tags.specs.Opening.{is_sealed}
use Rattle.xl_tags.specs.Rings.{Ring}
use Rattle.xl_core.specs.Core.{Core}
use Rattle.xl_sched.specs.declared.event.Event.{Event}
use Rattle.xl_sched.specs.declared.event.What.{What}
use Rattle.xl_sched.specs.declared.event.What.TheVariants as what
use Rattle.xl_world.specs.Schedule.{after_event, frame_at, lied_bytes}
use Rattle.xl_world.specs.Sending.{Sent}
use Rattle.xl_world.specs.World.{World, core_in}
use Rattle.xl_negative.specs.declared.hearing.Heard.{Heard}

-- what a body says of a ledger, if it is a validation
abbrev pub said_in_body : ℕ → Body → Option SaidLedger
said_in_body from (bodies.Validation v) = Some (record { member = from; seq = v.seq; id = v.id })
said_in_body from other = None

abbrev pub said_if_read : ℕ → Result Body WireRefusal → Option SaidLedger
said_if_read from (Ok body) = said_in_body from body
said_if_read from (Err why) = None

-- whether the owner of these keys opens a frame: it is to that number, from a member's, and has the tag of the key that
-- the two share. No ring has a key for its owner
abbrev pub opens : Ring → RawFrame → Bool
opens keys f = f.to == keys.me && not (is_outside f.from) && is_sealed keys f

abbrev pub said_in_frame : Ring → RawFrame → Option SaidLedger
said_in_frame keys f = if opens keys f then said_if_read f.from (body_of f.kind f.body) else None

-- bytes must be one whole frame
abbrev pub said_in_split : Ring → List ℕ → Split → Option SaidLedger
said_in_split keys bytes (Refused why) = None
said_in_split keys bytes (Need lack) = None
said_in_split keys bytes (Whole f) = if nat_le (length bytes) (span f.body) then said_in_frame keys f else None

-- what the owner of these keys hears in bytes
abbrev pub said_in : Ring → List ℕ → Option SaidLedger
said_in keys bytes = said_in_split keys bytes (split_of bytes)

-- what the node of a number hears in bytes, if there is one; a liar hears nothing
abbrev pub heard_by : ℕ → List ℕ → Option Core → List Heard
heard_by to bytes None = []
heard_by to bytes (Some core) =
    option_to_list (option_map (λ said. record { node = to; said = said }) (said_in core.node.keys bytes))

abbrev pub heard_of : World → ℕ → List ℕ → List Heard
heard_of w to bytes = heard_by to bytes (core_in w to)

-- a frame that was sent is handed to its receiver
abbrev pub heard_in_frame : World → Sent → List Heard
heard_in_frame w f = heard_of w f.to f.bytes

abbrev pub heard_if_sent : World → Option Sent → List Heard
heard_if_sent w None = []
heard_if_sent w (Some f) = heard_in_frame w f

-- one after the other
abbrev pub heard_in_sent : World → List Sent → List Heard
heard_in_sent w frames = flat_map (heard_in_frame w) frames

-- what nodes hear in the frames that are handed to them when something happens
abbrev pub heard_in : World → What → List Heard
heard_in w (what.Deliver place) = heard_if_sent w (frame_at w.sent place)
heard_in w what.All = heard_in_sent w (drop w.mark w.sent)
heard_in w (what.Lie from to lie) = heard_of w to (lied_bytes from to lie)
heard_in w (what.Raw to bytes) = heard_of w to bytes
heard_in w other = []

-- a node hears what it issues
abbrev pub heard_itself : SaidLedger → Heard
heard_itself said = record { node = said.member; said = said }

-- what was issued since this many validations were
abbrev pub issued_since : ℕ → World → List Heard
issued_since before w = map heard_itself (drop before w.said)

-- all that nodes hear in an event
abbrev pub heard_at : World → Event → List Heard
heard_at w e = heard_in w e.what ++ issued_since (length w.said) (after_event w e)
