-- The frames of what waits for a peer. Source: this project's own layout.
use Rattle.std.specs.Prelude.{ℕ, Bool, List, map, is_some, option_map, if◌then◌else◌}
use Rattle.std.specs.Prelude.{Some, None}
use Rattle.std.specs.declared.option.Option.{Option}
use Rattle.std.specs.Option.{option_and_then}
use Rattle.std.specs.Str.{bytes_eq}
use Rattle.xl_base.specs.Sets.{set_id_of}
use Rattle.xl_base.specs.declared.ids.LedgerId.{LedgerId}
use Rattle.xl_base.specs.declared.ids.SetId.{SetId}
use Rattle.xl_ledger.specs.Chains.{header_at, place_of}
use Rattle.xl_ledger.specs.Headers.{spelling}
use Rattle.xl_wire.specs.declared.body.Body.{Body}
use Rattle.xl_core.specs.declared.item.Item.{Item}
use Rattle.xl_core.specs.declared.item.Item.TheVariants.{Validation as ValidationItem, Tx, TxSet, Proposal, Header}
use Rattle.xl_core.specs.Node.{Node}
use Rattle.xl_core.specs.Queues.{waiting_at, that_fit, stream_of, frames_in, at_number, after_taking}
use Rattle.xl_queues.specs.Queues.{Backlog}
use Rattle.xl_tags.specs.Rings.{key_of}
use Rattle.xl_core.specs.Sending.{sealed_bytes, has_spelling}
use Rattle.xl_wire.specs.declared.body.Body.TheVariants as bodies

-- a set that is still the node's own
abbrev pub is_own : Node → SetId → Bool
is_own n id = bytes_eq id.0 (set_id_of n.round.positions.own).0

-- the header of a ledger, by its place among those that it knows, and by its id
abbrev pub header_body_at : Node → ℕ → Body
header_body_at n place = bodies.Header (spelling (header_at n.ledgers.headers place))

abbrev pub header_body : Node → LedgerId → Option Body
header_body n id = option_map (header_body_at n) (place_of n.ledgers.headers id)

-- the body in which it says an item, or None for a set that is no longer its own
abbrev pub body_in : Node → Item → Option Body
body_in n (ValidationItem v) = Some (bodies.Validation v)
body_in n (Tx tx) = Some (bodies.Tx tx)
body_in n (TxSet id) = if is_own n id then Some (bodies.TxSet n.round.positions.own) else None
body_in n (Proposal p) = Some (bodies.Proposal p)
body_in n (Header id) = header_body n id

-- the frame in which it sends a body to a peer, or None for what no frame can hold
abbrev pub frame_for : Node → ℕ → Body → Option (List ℕ)
frame_for n to body = if has_spelling n.me to body then Some (sealed_bytes n.keys n.me to body) else None

-- the frame in which it sends an item, or None if it passes the item over
abbrev pub frame_of : Node → ℕ → Item → Option (List ℕ)
frame_of n to item = option_and_then (frame_for n to) (body_in n item)

-- of all that waits for a number; there is None for what is passed over
abbrev pub frames_for : Node → List (Backlog Item) → ℕ → List (Option (List ℕ))
frames_for n waiting to = map (frame_of n to) (waiting_at waiting to).items

-- how many items for a number were lost; nothing is kept for one that is no peer
abbrev pub lost_for : Node → List (Backlog Item) → ℕ → ℕ
lost_for n waiting to = if is_some (key_of n.keys to) then (waiting_at waiting to).lost else 0

-- of the oldest items that a room takes
abbrev pub taken_for : Node → List (Backlog Item) → ℕ → ℕ → List (Option (List ℕ))
taken_for n waiting to room = that_fit (frames_for n waiting to) room

-- the bytes that a drain gives
abbrev pub drained_bytes : Node → List (Backlog Item) → ℕ → ℕ → List ℕ
drained_bytes n waiting to room = stream_of (frames_in (taken_for n waiting to room))

-- what waits after a drain
abbrev pub drained_for : Node → List (Backlog Item) → ℕ → ℕ → List (Backlog Item)
drained_for n waiting to room = at_number waiting to (after_taking (taken_for n waiting to room))
