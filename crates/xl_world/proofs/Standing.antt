-- What stands in a world, anywhere under a member's name: in a row, among what waits, or in what was sent.
use Rattle.std.specs.Prelude.{◌≡◌, ℕ, List, All, IfSome}
use Rattle.std.specs.Prelude.{Some, None, Result, Ok}
use Rattle.std.specs.declared.option.Option.{Option}
use Rattle.xl_io.specs.Keepers.{MayHold}
use Rattle.xl_lists.specs.declared.said.SaidLedger.{SaidLedger}
use Rattle.xl_lists.specs.Agreement.{KeptFacts}
use Rattle.xl_wire.specs.declared.body.Body.{Body}
use Rattle.xl_wire.specs.declared.body.Body.TheVariants as bodies
use Rattle.xl_wire.specs.declared.refusal.WireRefusal.{WireRefusal}
use Rattle.xl_wire.specs.Bodies.{body_of}
use Rattle.xl_wire.specs.Heads.{Split, split_of}
use Rattle.xl_wire.specs.Heads.Split.{Whole, Need, Refused}
use Rattle.xl_validations.specs.declared.row.Row.{Row}
use Rattle.xl_core.specs.declared.item.Item.{Item}
use Rattle.xl_core.specs.declared.item.Item.TheVariants.{Validation as ValidationItem}
use Rattle.xl_core.specs.Core.{Core}
use Rattle.xl_core.specs.Node.{Node}
use Rattle.xl_world.specs.declared.place.Place.{Place}
use Rattle.xl_world.specs.Sending.{Sent}
use Rattle.xl_world.specs.Disk.{held_by}
use Rattle.xl_world.specs.World.{World, place_at, said_by}

-- the disk of this member may hold this number
abbrev pub Holds : World → ℕ → ℕ → Type 0
Holds w m k = (p : Place) × (place_at m w.places ≡ Some p) × MayHold (held_by p.disk) k

-- P holds of what the row says
abbrev pub RowSays : (SaidLedger → Type 0) → Row → Type 0
RowSays P row = IfSome row.current (λ v. P (said_by row.member v))

-- what a body says under its sender's number, if it says anything
abbrev pub said_in_body : ℕ → Result Body WireRefusal → Option SaidLedger
said_in_body from (Ok (bodies.Validation v)) = Some (said_by from v)
said_in_body from other = None

abbrev pub said_in_split : Split → Option SaidLedger
said_in_split (Whole f) = said_in_body f.from (body_of f.kind f.body)
said_in_split (Need lack) = None
said_in_split (Refused why) = None

-- what the bytes of a frame say
abbrev pub said_in : List ℕ → Option SaidLedger
said_in bytes = said_in_split (split_of bytes)

-- P holds of what a frame says
abbrev pub FrameSays : (SaidLedger → Type 0) → Sent → Type 0
FrameSays P f = IfSome (said_in f.bytes) P

-- P holds of each validation that stands at the node
abbrev pub NodeSays : (SaidLedger → Type 0) → Node → Type 0
NodeSays P n = All (RowSays P) n.rows

-- P holds of what waits at a number to be sent
abbrev pub ItemSays : (SaidLedger → Type 0) → ℕ → Item → Type 0
ItemSays P me (ValidationItem v) = P (said_by me v)
ItemSays P me other = Unit {0}

-- P holds of each validation that stands at the core, in a row or waiting
pub record CoreSays (P : SaidLedger → Type 0) (core : Core) : Type 0 where
  pub rows : All (RowSays P) core.node.rows
  pub items : All (λ q. All (ItemSays P core.node.me) q.items) core.waiting

-- P holds of each validation that stands at a core or was sent
pub record Stands (w : World) (P : SaidLedger → Type 0) : Type 0 where
  pub places : (i : ℕ) (p : Place) → place_at i w.places ≡ Some p → CoreSays P p.core
  pub sent : All (FrameSays P) w.sent

-- what is kept of a world
abbrev pub IsKept : World → Type 0
IsKept w = KeptFacts w.liars w.said w.reports (Holds w) (Stands w)
