-- What links and clocks in memory show: their content, their faults and their script. Source: this project's own, for
-- tests of what is said over links.
use Rattle.std.specs.Prelude.{ℕ, ◌&&◌, nat_le, min, max, not, Bool, List, [], ◌∷◌, map, Some, None, option_map, drop}
use Rattle.xl_base.specs.Counts.{one_more}
use Rattle.xl_base.specs.Moments.{greatest_millis}
use Rattle.xl_links.specs.declared.link.Opening.{Opening}
use Rattle.xl_links.specs.declared.link.LinkRead.{LinkRead}
use Rattle.xl_links.specs.declared.link.LinkRead.TheVariants as read
use Rattle.xl_links.specs.declared.script.LinkScript.{LinkScript}
use Rattle.xl_links.specs.declared.script.Course.{Course}
use Rattle.xl_links.specs.declared.script.Course.TheVariants as course
use Rattle.xl_links.specs.declared.link.plain.PlainLink.{PlainLink}
use Rattle.xl_links.specs.declared.link.scripted.Calls.{Calls}
use Rattle.xl_links.specs.declared.link.scripted.Given.{Given}
use Rattle.xl_links.specs.declared.link.scripted.MemLink.{MemLink}
use Rattle.xl_links.specs.declared.clock.MemClock.{MemClock}
use Rattle.xl_links.specs.Links.{Wire, Reading, reading_in}
use Rattle.xl_links.specs.Scripts.{opening_at, course_at, is_listed}
use Rattle.xl_links.specs.Tellings.{Telling, telling_of}

-- all bytes of a link which never fails
abbrev pub plain_bytes : PlainLink → List ℕ
plain_bytes link = link.bytes.items

-- how many of them it gave
abbrev pub plain_given : PlainLink → ℕ
plain_given link = link.given

-- those that it still has to give
abbrev pub plain_left : PlainLink → List ℕ
plain_left link = drop (plain_given link) (plain_bytes link)

-- the most bytes that a read gives or a write takes, 0 being read as 1
abbrev pub plain_piece : PlainLink → ℕ
plain_piece link = link.piece

-- a piece, of so many bytes that there are
abbrev pub piece_of : ℕ → ℕ → ℕ
piece_of most bytes = min bytes (max most 1)

-- it tells nothing of what it takes, nor of its openings, its reads and what it is asked
abbrev pub plain_wire : PlainLink → Wire
plain_wire link = record {
  left = Some (plain_left link);
  took = None;
  openings = None;
  readings = None;
  permissions = None;
  faults = 0;
}

-- the same with a count of faults
abbrev pub counted_wire : PlainLink → ℕ → Wire
counted_wire link faults = record (plain_wire link) { faults = faults }

-- the bytes that a link in memory still has to give
abbrev pub bytes_left : MemLink → List ℕ
bytes_left link = plain_left link.source

abbrev pub link_piece : MemLink → ℕ
link_piece link = plain_piece link.source

-- the bytes that it took
abbrev pub bytes_taken : MemLink → List ℕ
bytes_taken link = link.taken.items

-- what its openings answered, in room that was taken when it was made
abbrev pub list_of_openings : MemLink → Telling Opening
list_of_openings link = telling_of link.openings

-- a read, by its answer and by which of all bytes were next then
abbrev pub reading_given : List ℕ → Given → Reading
reading_given bytes given = reading_in (drop given.from bytes) given.answer

-- what its reads answered, in such room
abbrev pub list_of_readings : MemLink → Telling Reading
list_of_readings link = record {
  told = option_map (map (reading_given (plain_bytes link.source))) (telling_of link.readings).told;
  room = (telling_of link.readings).room;
}

-- what it said when it was asked whether its peer may be spoken to, in such room
abbrev pub list_of_permissions : MemLink → Telling Bool
list_of_permissions link = telling_of link.permissions

abbrev pub wire_of : MemLink → Wire
wire_of link = record {
  left = Some (bytes_left link);
  took = Some (bytes_taken link);
  openings = (list_of_openings link).told;
  readings = (list_of_readings link).told;
  permissions = (list_of_permissions link).told;
  faults = link.faults;
}

-- how its calls are to be answered
abbrev pub script_of : MemLink → LinkScript
script_of link = link.script

-- how many calls of each kind there were
abbrev pub calls_of : MemLink → Calls
calls_of link = link.calls

abbrev pub no_calls : Calls
no_calls = record { openings = 0; reads = 0; writes = 0; questions = 0 }

abbrev pub with_opening_call : Calls → Calls
with_opening_call calls = record calls { openings = one_more calls.openings }

abbrev pub with_read_call : Calls → Calls
with_read_call calls = record calls { reads = one_more calls.reads }

abbrev pub with_write_call : Calls → Calls
with_write_call calls = record calls { writes = one_more calls.writes }

abbrev pub with_question : Calls → Calls
with_question calls = record calls { questions = one_more calls.questions }

-- what the next opening answers
abbrev pub next_opening : MemLink → Opening
next_opening link = opening_at (script_of link) (one_more (calls_of link).openings)

-- if no byte is left, a read that would give some ends the connection
abbrev pub course_over : List ℕ → Course → Course
course_over [] course.Gives = course.Ends
course_over (b ∷ bytes) course.Gives = course.Gives
course_over bytes course.Idles = course.Idles
course_over bytes course.Ends = course.Ends
course_over bytes course.Fails = course.Fails

-- how the next read goes
abbrev pub next_course : MemLink → Course
next_course link = course_over (bytes_left link) (course_at (script_of link) (one_more (calls_of link).reads))

-- how a read went
abbrev pub course_of : LinkRead → Course
course_of (read.Got n) = course.Gives
course_of read.Idle = course.Idles
course_of read.End = course.Ends
course_of read.Failed = course.Fails

-- the next write is to fail
abbrev pub next_write_fails : MemLink → Bool
next_write_fails link = is_listed (script_of link).failing_writes.items (one_more (calls_of link).writes)

-- what it says next if it is asked whether its peer may be spoken to
abbrev pub next_permission : MemLink → Bool
next_permission link = not (is_listed (script_of link).untold.items (one_more (calls_of link).questions))

-- the moment that a clock in memory began with
abbrev pub first_moment : MemClock → ℕ
first_moment clock = clock.first

-- it may give that moment, and each later one
abbrev pub is_moment : MemClock → ℕ → Bool
is_moment clock moment = nat_le (first_moment clock) moment && nat_le moment greatest_millis
