-- How a drain goes on, item by item. Source: what the code of this crate relies on.
use Rattle.std.specs.Prelude.{◌≡◌, ℕ, ◌+◌, ◌-◌, ◌<◌, Bool, true, List, [], ◌∷◌, ◌++◌, length, drop, slice_get}
use Rattle.std.specs.Prelude.{Some, None}
use Rattle.std.specs.declared.option.Option.{Option}
use Rattle.std.specs.Option.{is_none}
use Rattle.xl_queues.specs.Queues.{Backlog}
use Rattle.xl_base.specs.Putting.{Puts}
use Rattle.xl_ledger.specs.declared.header.Header.{Header}
use Rattle.xl_ledger.specs.Limits.{greatest_limit}
use Rattle.xl_core.specs.declared.item.Item.{Item}
use Rattle.xl_core.specs.declared.putting.Put.{Put}
use Rattle.xl_core.specs.declared.putting.Put.TheVariants.{Written, PassedOver, NoRoom}
use Rattle.xl_core.specs.declared.the_core.greeting.Greeting.{Greeting}
use Rattle.xl_core.specs.Greetings.{chain_to, greeting_frames, further}
use Rattle.xl_core.specs.Items.{frames_for}
use Rattle.xl_core.specs.Node.{Node}
use Rattle.xl_core.specs.Sending.{keys_for}
use Rattle.xl_core.specs.declared.sending.TagPlace.{TagPlace}
use Rattle.xl_core.specs.Queues.{at_number, after_taking, count_fitting, that_fit, frames_in, stream_of}

-- what became of a frame at a place of a room, or of what has none
abbrev pub IsPut : Option (List ℕ) → ℕ → List ℕ → List ℕ → Put → Type 0
IsPut None at old new (Written count) = ⊥
IsPut None at old new PassedOver = new ≡ old
IsPut None at old new NoRoom = ⊥
IsPut (Some frame) at old new (Written count) = (count ≡ length frame) × Puts at frame old new
IsPut (Some frame) at old new PassedOver = ⊥
IsPut (Some frame) at old new NoRoom = (length old - at < length frame) × (new ≡ old)

-- a frame stands at a place, and the next one goes behind it; what has none needs no place
abbrev pub Stands : Option (List ℕ) → ℕ → ℕ → List ℕ → List ℕ → Type 0
Stands None at next old new = (next ≡ at) × (new ≡ old)
Stands (Some frame) at next old new = (next ≡ at + length frame) × Puts at frame old new

-- the oldest item for a number was taken or passed over, of these frames the first
pub record TakesOne (frames : List (Option (List ℕ))) (waiting after : List (Backlog Item)) (number at next : ℕ)
    (old new : List ℕ) : Type 0 where
  pub first : Option (List ℕ)
  pub rest : List (Option (List ℕ))
  pub is : frames ≡ first ∷ rest
  pub taken : after ≡ at_number waiting number (after_taking (first ∷ []))
  pub stands : Stands first at next old new

-- nothing waits for a number, or the room is too short for the first frame from a place on
abbrev pub TakesNone : Node → ℕ → ℕ → List (Backlog Item) → List (Backlog Item) → List ℕ → List ℕ → Type 0
TakesNone n number at waiting after old new =
    (count_fitting (frames_for n waiting number) (length old - at) ≡ 0) × (after ≡ waiting) × (new ≡ old)

-- the frame of the oldest item, if it has one, was put at a place, and this is where the next one goes
abbrev pub TakesFirst : Node → ℕ → ℕ → Option ℕ → List (Backlog Item) → List (Backlog Item) → List ℕ → List ℕ → Type 0
TakesFirst n number at result waiting after old new =
    (next : ℕ) → result ≡ Some next → TakesOne (frames_for n waiting number) waiting after number at next old new

-- a node as it writes its frames
abbrev pub node_for : TagPlace → Node → Node
node_for tags n = record n { keys = keys_for tags n.keys }

-- THE HEADERS OF A GREETING

-- the ledger of the next header, or None if all were handed out
abbrev pub next_on : List Header → Greeting → Option ℕ
next_on ledgers g = slice_get (chain_to ledgers g.target) g.next

abbrev pub is_handed : Node → Option Greeting → Bool
is_handed n None = true
is_handed n (Some g) = is_none (next_on n.ledgers.headers g)

-- a header of a known ledger comes next
abbrev pub IsNext : Node → Greeting → Option ℕ → Type 0
IsNext n g result =
    (ledger : ℕ) → result ≡ Some ledger → (ledger < length n.ledgers.headers) × (g.next < greatest_limit)

-- none of these frames fits into a room from a place on
abbrev pub PutsNone : List (Option (List ℕ)) → ℕ → List ℕ → List ℕ → Type 0
PutsNone frames at old new = (count_fitting frames (length old - at) ≡ 0) × (new ≡ old)

-- the next header was put at a place, and then one fewer is left
pub record PutsNext (n : Node) (to : ℕ) (g : Greeting) (at next : ℕ) (old new : List ℕ) : Type 0 where
  pub first : List ℕ
  pub is : greeting_frames n (Some g) to ≡ Some first ∷ greeting_frames n (Some (further 1 g)) to
  pub stands : Stands (Some first) at next old new
  pub few : g.next < greatest_limit

-- and this is where the next one goes
abbrev pub PutsOne : Node → ℕ → Greeting → ℕ → Option ℕ → List ℕ → List ℕ → Type 0
PutsOne n to g at result old new = (next : ℕ) → result ≡ Some next → PutsNext n to g at next old new

-- as many of these frames as fit into a room were written to its front
pub record Writes (frames : List (Option (List ℕ))) (written : ℕ) (old new : List ℕ) : Type 0 where
  pub count : written ≡ length (stream_of (frames_in (that_fit frames (length old))))
  pub room : new ≡ stream_of (frames_in (that_fit frames (length old))) ++ drop written old
