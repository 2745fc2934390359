-- What a link over TCP answers for what the system says. Source: the POSIX calls connect, accept, recv and send, on
-- sockets that have time-outs.
use Rattle.std.specs.Prelude.{ℕ, ◌==◌, ◌≤◌, Bool, true, false, List, length, Result, Ok, Err, None, if◌then◌else◌}
use Rattle.std.specs.IoError.{error_kind}
use Rattle.std.specs.declared.io.Error.{Error}
use Rattle.std.specs.declared.io.ErrorKind.{ErrorKind}
use Rattle.std.specs.declared.io.ErrorKind.TheVariants as kind
use Rattle.xl_io.specs.declared.sink.Wrote.{Wrote}
use Rattle.xl_io.specs.declared.sink.Wrote.TheVariants as wrote
use Rattle.xl_links.specs.declared.door.Arrival.{Arrival}
use Rattle.xl_links.specs.declared.door.Arrival.TheVariants as arrival
use Rattle.xl_links.specs.declared.link.Opening.{Opening}
use Rattle.xl_links.specs.declared.link.Opening.TheVariants as opening
use Rattle.xl_links.specs.declared.link.LinkRead.{LinkRead}
use Rattle.xl_links.specs.declared.link.LinkRead.TheVariants as read
use Rattle.xl_links.specs.Doors.{Doorway}
use Rattle.xl_links.specs.Links.{Wire}

-- it tells how often a call has failed, and nothing else
abbrev pub untold : ℕ → Wire
untold faults = record { left = None; took = None; openings = None; readings = None; permissions = None; faults = faults }

-- and so does a door
abbrev pub untold_door : ℕ → Doorway
untold_door faults = record { left = None; took = None; faults = faults }

-- nothing failed, and a line stands within the room
abbrev pub FitsLine : Arrival → List ℕ → Type 0
FitsLine (arrival.Line n) room = n ≤ length room
FitsLine arrival.Long room = Unit {0}
FitsLine arrival.Idle room = Unit {0}
FitsLine arrival.Failed room = ⊥

-- nothing happened within the time-out
abbrev pub is_late : ErrorKind → Bool
is_late kind.WouldBlock = true
is_late kind.TimedOut = true
is_late _ = false

-- nobody takes the call where it is made, or whoever made one has gone
abbrev pub is_absence : ErrorKind → Bool
is_absence kind.ConnectionRefused = true
is_absence kind.ConnectionReset = true
is_absence kind.ConnectionAborted = true
is_absence kind.HostUnreachable = true
is_absence reason = is_late reason

module _ {S : Type 0} where
  -- an opening, by the connection that it brought
  abbrev pub opening_of : Result S Error → Opening
  opening_of (Ok stream) = opening.Open
  opening_of (Err error) = if is_absence (error_kind error) then opening.NotYet else opening.Failed

-- a read, by how many bytes came
abbrev pub reading_of : Result ℕ Error → LinkRead
reading_of (Ok n) = if n == 0 then read.End else read.Got n
reading_of (Err error) = if is_late (error_kind error) then read.Idle else read.Failed

-- a write, by how many bytes were taken
abbrev pub writing_of : Result ℕ Error → Wrote
writing_of (Ok n) = if n == 0 then wrote.Failed else wrote.Took n
writing_of (Err error) = wrote.Failed
