-- A world of the code, as the definitions see it. Source: what the code of this crate keeps.
use Rattle.std.specs.Prelude.{◌≡◌, ◌≤◌, ◌<◌, ℕ, ◌+◌, All, Bool, true, false, List, [], drop, get_or, length, map, take}
use Rattle.xl_wire.specs.Lengths.{longest_frame}
use Rattle.xl_world.specs.declared.frames.SentFrames.TheInside.{Inside as FramesInside}
use Rattle.xl_world.specs.declared.frames.KeptBytes.{KeptBytes}
use Rattle.xl_world.specs.declared.frames.SentPlace.{SentPlace}
use Rattle.xl_world.specs.declared.frames.SentPlace.TheVariants as place
use Rattle.xl_world.specs.declared.said.Said.{Said}
use Rattle.xl_world.specs.declared.said.Said.TheVariants as said
use Rattle.xl_world.specs.declared.sent.KeptFrame.{KeptFrame}
use Rattle.xl_world.specs.declared.sent.KeptFrame.TheVariants as frame
use Rattle.xl_world.specs.declared.network.Network.TheInside.{Inside as NetworkInside}
use Rattle.xl_world.specs.declared.sent.Sent.TheInside.{Inside as SentInside}
use Rattle.xl_world.specs.declared.traffic.Traffic.TheInside.{Inside as TrafficInside}
use Rattle.xl_world.specs.declared.world.World.TheInside.{Inside}
use Rattle.xl_world.specs.Ends.{IsLeft}
use Rattle.xl_world.specs.Indexes.{IsIndex, Traffic}
use Rattle.xl_world.specs.Rested.{IsAtRest}
use Rattle.xl_world.specs.Sending.{Sent, address_in, with_address, body_said, said_to, sent_as}
use Rattle.xl_world.specs.Stands.{AreSeats}
use Rattle.xl_world.specs.Starts.{IsRun}
use Rattle.xl_world.specs.World.{World}

-- a frame from the one to the other, of which this is kept
abbrev pub kept_seen : ℕ → ℕ → KeptFrame → Sent
kept_seen from to (frame.Bytes kept address) = sent_as from to (with_address address kept.now)
kept_seen from to (frame.Said what) = said_to from to (body_said what.now)

abbrev pub sent_seen : SentInside → Sent
sent_seen f = kept_seen f.from f.to f.kept

-- a frame has room for what is kept of it
abbrev pub IsShortFrame : KeptFrame → Type 0
IsShortFrame (frame.Bytes kept address) = length kept.now ≤ longest_frame
IsShortFrame (frame.Said what) = Unit {0}

abbrev pub IsShort : SentInside → Type 0
IsShort f = IsShortFrame f.kept

-- what the frame of a place says
abbrev pub said_there : List Said → ℕ → Said
said_there all place = get_or all place (said.Tx (record { 0 = [] }))

-- the frame of a place among the bytes of all, and among all that is said
abbrev pub frame_in : List ℕ → KeptBytes → Sent
frame_in bytes p = sent_as p.from p.to (with_address p.address (take p.length (drop p.begins bytes)))

abbrev pub frame_of_place : List ℕ → List Said → SentPlace → Sent
frame_of_place bytes all (place.Bytes p) = frame_in bytes p
frame_of_place bytes all (place.Said p) = said_to p.from p.to (body_said (said_there all p.place))

abbrev pub frames_seen : FramesInside → List Sent
frames_seen f = map (frame_of_place f.bytes.items f.said.items) f.places.items

-- each place is one among so many bytes, and has as many as a frame may have; or it is one among so much that is said
abbrev pub IsWithin : ℕ → KeptBytes → Type 0
IsWithin count p = (p.begins + p.length ≤ count) × (p.length ≤ longest_frame)

abbrev pub IsPlace : ℕ → ℕ → SentPlace → Type 0
IsPlace bytes all (place.Bytes p) = IsWithin bytes p
IsPlace bytes all (place.Said p) = p.place < all

abbrev pub AreWithin : FramesInside → Type 0
AreWithin f = All (IsPlace (length f.bytes.items) (length f.said.items)) f.places.items

-- a frame is among the bytes of all from a place on, but for its address
abbrev pub IsKeptAt : List ℕ → ℕ → List ℕ → Type 0
IsKeptAt bytes begins kept =
    (begins + length kept ≤ length bytes) × (with_address (address_in kept) (take (length kept) (drop begins bytes)) ≡ kept)

abbrev pub traffic_seen : TrafficInside → Traffic
traffic_seen t = record { frames = t.frames; mark = t.mark }

-- the index is one of what was sent, and the mark stands in that
pub record IsTraffic (t : TrafficInside) : Type 0 where
  pub index : IsIndex t.index t.frames
  pub mark : t.mark ≤ length t.frames

abbrev pub network_seen : NetworkInside → World
network_seen n = record {
  liars = n.liars.items;
  numbers = n.numbers;
  places = n.places.items;
  sent = n.traffic.frames;
  mark = n.traffic.mark;
  said = n.said.items;
  reports = n.reports.items;
  lists = n.lists.items;
  forged = n.forged;
  spent = false;
}

abbrev pub world_seen : Inside → World
world_seen w = record (w.network) { spent = w.spent }

-- the world is a run, and at rest; or it is what is left of one
abbrev pub IsKept : Bool → World → Type 0
IsKept false w = IsRun w × IsAtRest w
IsKept true w = IsLeft (record w { spent = true })

-- what the type keeps
pub record IsWhole (w : Inside) : Type 0 where
  pub kept : IsKept w.spent w.network
  pub seats : w.spent ≡ false → AreSeats w.seats w.network.places
