-- What a link to another member does: it is opened, it gives bytes, it takes bytes, and it says whether its peer may be
-- spoken to. Source: a TCP connection, with a count of faults; the question is this project's own.
use Rattle.std.specs.Prelude.{◌≡◌, ◌≢◌, ℕ, ◌<◌, ◌≤◌, Bool, List, [], ◌∷◌, length, take}
use Rattle.std.specs.declared.option.Option.{Option}
use Rattle.std.specs.Io.KnownBytes.{prepend_known, append_known}
use Rattle.xl_base.specs.Faults.{Rose}
use Rattle.xl_io.specs.Sinks.{FitsPiece}
use Rattle.xl_io.specs.declared.sink.Wrote.{Wrote}
use Rattle.xl_io.specs.declared.sink.Wrote.TheVariants as wrote
use Rattle.xl_links.specs.declared.link.Opening.{Opening}
use Rattle.xl_links.specs.declared.link.Opening.TheVariants as opening
use Rattle.xl_links.specs.declared.link.LinkRead.{LinkRead}
use Rattle.xl_links.specs.declared.link.LinkRead.TheVariants as read
use Rattle.xl_links.specs.Tellings.{AddsTold}

-- what a read answered
pub data Reading : Type 0 where
  Got : List ℕ → Reading
  Idle : Reading
  End : Reading
  Failed : Reading

-- what a link shows: the bytes that it still has to give, and those that it took; what its openings and its reads
-- answered, first to last; and what it said when it was asked whether its peer may be spoken to. Each of these stands there
-- if the link tells it. How often a call has failed stands there up to the greatest `u64`
pub record Wire : Type 0 where
  pub left : Option (List ℕ)
  pub took : Option (List ℕ)
  pub openings : Option (List Opening)
  pub readings : Option (List Reading)
  pub permissions : Option (List Bool)
  pub faults : ℕ

-- the bytes that it gave
abbrev pub bytes_of : Reading → List ℕ
bytes_of (Got bytes) = bytes
bytes_of Idle = []
bytes_of End = []
bytes_of Failed = []

-- a read's answer, with the bytes that stand at the front of the room
abbrev pub reading_in : List ℕ → LinkRead → Reading
reading_in room (read.Got n) = Got (take n room)
reading_in room read.Idle = Idle
reading_in room read.End = End
reading_in room read.Failed = Failed

-- the bytes that a write took
abbrev pub taken_of : List ℕ → Wrote → List ℕ
taken_of piece (wrote.Took n) = take n piece
taken_of piece wrote.Failed = []

-- an opening is told, and changes no bytes
pub record Opens (old : Wire) (answer : Opening) (new : Wire) : Type 0 where
  pub openings : AddsTold old.openings new.openings (answer ∷ [])
  pub readings : new.readings ≡ old.readings
  pub permissions : new.permissions ≡ old.permissions
  pub left : new.left ≡ old.left
  pub took : new.took ≡ old.took
  pub later : old.faults ≤ new.faults
  pub failed : answer ≡ opening.Failed → Rose old.faults new.faults
  pub exact : answer ≢ opening.Failed → new.faults ≡ old.faults

-- a read gives at most what the room holds, and some of it unless there is no room
abbrev pub FitsRoom : LinkRead → List ℕ → Type 0
FitsRoom (read.Got n) room = (n ≤ length room) × (0 < length room → 0 < n)
FitsRoom read.Idle room = Unit {0}
FitsRoom read.End room = Unit {0}
FitsRoom read.Failed room = Unit {0}

-- a read is told, and gives the next of the bytes that were left. An end is the connection's: more may come on the next one
pub record Reads (old : Wire) (answer : LinkRead) (room : List ℕ) (new : Wire) : Type 0 where
  pub fits : FitsRoom answer room
  pub left : old.left ≡ prepend_known (bytes_of (reading_in room answer)) new.left
  pub took : new.took ≡ old.took
  pub openings : new.openings ≡ old.openings
  pub readings : AddsTold old.readings new.readings (reading_in room answer ∷ [])
  pub permissions : new.permissions ≡ old.permissions
  pub later : old.faults ≤ new.faults
  pub failed : answer ≡ read.Failed → Rose old.faults new.faults
  pub exact : answer ≢ read.Failed → new.faults ≡ old.faults

-- a write takes bytes from the front of the piece, some of them unless it is empty
pub record Writes (old : Wire) (answer : Wrote) (piece : List ℕ) (new : Wire) : Type 0 where
  pub fits : FitsPiece answer piece
  pub took : new.took ≡ append_known old.took (taken_of piece answer)
  pub left : new.left ≡ old.left
  pub openings : new.openings ≡ old.openings
  pub readings : new.readings ≡ old.readings
  pub permissions : new.permissions ≡ old.permissions
  pub later : old.faults ≤ new.faults
  pub failed : answer ≡ wrote.Failed → Rose old.faults new.faults
  pub exact : answer ≢ wrote.Failed → new.faults ≡ old.faults

-- what it says of whether its peer may be spoken to is told, and changes nothing else
pub record Permits (old : Wire) (answer : Bool) (new : Wire) : Type 0 where
  pub permissions : AddsTold old.permissions new.permissions (answer ∷ [])
  pub left : new.left ≡ old.left
  pub took : new.took ≡ old.took
  pub openings : new.openings ≡ old.openings
  pub readings : new.readings ≡ old.readings
  pub faults : new.faults ≡ old.faults
