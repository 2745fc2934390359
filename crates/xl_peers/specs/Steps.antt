-- What a session does, step by step: calls of the store, and reads and questions of its link. Source: this project's own.
use Rattle.std.specs.Prelude.{◌≡◌, ℕ, Bool, List, [], ◌∷◌, ◌++◌}
use Rattle.std.specs.List.{flat_map}
use Rattle.xl_wire.specs.Lengths.{longest_frame}
use Rattle.xl_links.specs.Links.{Reading, bytes_of}
use Rattle.xl_core.specs.declared.event.CoreEvent.{CoreEvent}
use Rattle.xl_core.specs.declared.event.CoreEvent.TheVariants.{Frame, Greet, Drain}
use Rattle.xl_core.specs.declared.event.CoreEvent.TheVariants.{Stopped}
use Rattle.xl_core.specs.Answers.{Answer, Done, Gave, Told, given_in}
use Rattle.xl_core.specs.Queues.{stream_of}
use Rattle.xl_store.specs.Calls.{Call}

-- the store was called, the link was read, or it was asked whether its peer may be spoken to
pub data Step : Type 0 where
  Called : Call → Step
  Read : Reading → Step
  MayTell : Bool → Step

abbrev pub greet : ℕ → Step
greet member = Called (record { event = Greet member; answer = Done })

-- whether the node is to stop
abbrev pub stop_step : Bool → Step
stop_step answer = Called (record { event = Stopped; answer = Told answer })

-- a drain into a room for the longest frame, and the frames that it gave
abbrev pub drain : ℕ → List (List ℕ) → Step
drain member frames = Called (record { event = Drain member longest_frame; answer = Gave member frames })

-- bytes are handed to the core, whatever it answers
abbrev pub frame : ℕ → List ℕ → Answer → Step
frame now bytes answer = Called (record { event = Frame now bytes; answer = answer })

abbrev pub call_in : Step → List Call
call_in (Called call) = call ∷ []
call_in (Read reading) = []
call_in (MayTell answer) = []

abbrev pub read_in : Step → List ℕ
read_in (Called call) = []
read_in (Read reading) = bytes_of reading
read_in (MayTell answer) = []

abbrev pub readings_in : Step → List Reading
readings_in (Called call) = []
readings_in (Read reading) = reading ∷ []
readings_in (MayTell answer) = []

abbrev pub permissions_in : Step → List Bool
permissions_in (Called call) = []
permissions_in (Read reading) = []
permissions_in (MayTell answer) = answer ∷ []

abbrev pub drained_in : Step → List ℕ
drained_in (Called call) = stream_of (given_in call.answer)
drained_in (Read reading) = []
drained_in (MayTell answer) = []

-- the bytes that an event hands to the core
abbrev pub handed_by : CoreEvent → List (List ℕ)
handed_by (Frame now bytes) = bytes ∷ []
handed_by other = []

abbrev pub handed_in : Step → List (List ℕ)
handed_in (Called call) = handed_by call.event
handed_in (Read reading) = []
handed_in (MayTell answer) = []

-- its calls of the store, in order
abbrev pub calls : List Step → List Call
calls steps = flat_map call_in steps

-- all bytes that its reads gave
abbrev pub bytes_read : List Step → List ℕ
bytes_read steps = flat_map read_in steps

-- what its reads answered, in order
abbrev pub read_answers : List Step → List Reading
read_answers steps = flat_map readings_in steps

-- what its link said when it was asked whether its peer may be spoken to, in order
abbrev pub tell_answers : List Step → List Bool
tell_answers steps = flat_map permissions_in steps

-- all bytes that its drains gave
abbrev pub bytes_drained : List Step → List ℕ
bytes_drained steps = flat_map drained_in steps

-- what it handed to the core, call by call
abbrev pub frames_handed : List Step → List (List ℕ)
frames_handed steps = flat_map handed_in steps

-- it was the last step
abbrev pub IsLast : List Step → Step → Type 0
IsLast steps step = (earlier : List Step) × (steps ≡ earlier ++ step ∷ [])
