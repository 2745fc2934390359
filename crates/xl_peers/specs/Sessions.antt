-- Sessions: which steps may follow one another, and how each ends.
-- Source: this project's own; the frames of a stream are those of its layout.
use Rattle.std.specs.Prelude.{◌≡◌, ◌≢◌, Bool, ℕ, ◌≤◌, ◌⊎◌, true, false, List, [], ◌∷◌, ◌++◌, map, if◌then◌else◌}
use Rattle.std.specs.List.{flat_map, AllByRecursion}
use Rattle.std.specs.Io.KnownBytes.{prepend_known, append_known}
use mathlib.Core.List.{IsPrefix}
use Rattle.xl_base.specs.Faults.{Rose}
use Rattle.xl_wire.specs.Raws.{RawFrame, raw_bytes, IsRaw}
use Rattle.xl_wire.specs.Heads.{Split, split_of}
use Rattle.xl_turns.specs.declared.view.Knowledge.{Knowledge}
use Rattle.xl_links.specs.Links.{Wire, Reading}
use Rattle.xl_links.specs.Tellings.{AddsTold}
use Rattle.xl_core.specs.Answers.{Answer}
use Rattle.xl_core.specs.Core.{Core}
use Rattle.xl_core.specs.Queues.{stream_of}
use Rattle.xl_store.specs.declared.entry.Entry.{Entry}
use Rattle.xl_store.specs.Calls.{Made}
use Rattle.xl_peers.specs.declared.ends.End.{End}
use Rattle.xl_peers.specs.declared.ends.End.TheVariants as end
use Rattle.xl_peers.specs.Steps.{Step, Read, MayTell, greet, stop_step, drain, frame, calls, bytes_read, bytes_drained}
use Rattle.xl_peers.specs.Steps.{frames_handed, read_answers, tell_answers, IsLast}

-- What was handed to the core are the first frames of the bytes read, each once and in order, and this is the rest
pub record HandsFirst (steps : List Step) (rest : List ℕ) : Type 0 where
  pub frames : List RawFrame
  pub handed : frames_handed steps ≡ map raw_bytes frames
  pub whole : bytes_read steps ≡ flat_map raw_bytes frames ++ rest
  pub each : AllByRecursion IsRaw frames

-- less than a frame stands next: no frame, and nothing that is refused
abbrev pub NeedsMore : List ℕ → Type 0
NeedsMore bytes = (lack : ℕ) × (split_of bytes ≡ Split.Need lack)

-- what a session is to do next
pub data Phase : Type 0 where
  Greets : Phase
  Asks : Phase
  Looks : Phase
  Drains : Phase
  Reads : Phase
  Hands : Phase
  Ended : Phase

-- what waits is drained only if the peer may be spoken to
abbrev pub after_look : Bool → Phase
after_look answer = if answer then Drains else Reads

-- after a read that gave bytes their frames are handed over, after an idle one the next turn begins, and else the
-- session ends
abbrev pub after_read : Reading → Phase
after_read (Reading.Got bytes) = Hands
after_read Reading.Idle = Asks
after_read Reading.End = Ended
after_read Reading.Failed = Ended

-- A session with a member, as far as it came, over a clock that may give these moments. It greets the member, and then
-- each turn asks whether to stop, asks the link whether its peer may be spoken to, and if it may drains until one drain
-- gives nothing. Then it reads once into a room that isn't empty, and hands over each frame that this read made whole
pub data IsSession (may_give : ℕ → Bool) (member : ℕ) : List Step → Phase → Type 0 where
  begins : IsSession may_give member [] Greets
  greets : (steps : List Step) → IsSession may_give member steps Greets
      → IsSession may_give member (steps ++ greet member ∷ []) Asks
  goes_on : (steps : List Step) → IsSession may_give member steps Asks
      → IsSession may_give member (steps ++ stop_step false ∷ []) Looks
  stops : (steps : List Step) → IsSession may_give member steps Asks
      → IsSession may_give member (steps ++ stop_step true ∷ []) Ended
  looks : (steps : List Step) (answer : Bool) → IsSession may_give member steps Looks
      → IsSession may_give member (steps ++ MayTell answer ∷ []) (after_look answer)
  drains : (steps : List Step) (frames : List (List ℕ)) → IsSession may_give member steps Drains
      → stream_of frames ≢ []
      → IsSession may_give member (steps ++ drain member frames ∷ []) Drains
  drained : (steps : List Step) (frames : List (List ℕ)) → IsSession may_give member steps Drains
      → stream_of frames ≡ []
      → IsSession may_give member (steps ++ drain member frames ∷ []) Reads
  reads : (steps : List Step) (reading : Reading) → IsSession may_give member steps Reads
      → reading ≢ Reading.Got []
      → IsSession may_give member (steps ++ Read reading ∷ []) (after_read reading)
  hands : (steps : List Step) (now : ℕ) (bytes : List ℕ) (answer : Answer) (rest : List ℕ)
      → IsSession may_give member steps Hands
      → may_give now ≡ true
      → HandsFirst (steps ++ frame now bytes answer ∷ []) rest
      → IsSession may_give member (steps ++ frame now bytes answer ∷ []) Hands
  handed : (steps : List Step) (rest : List ℕ) → IsSession may_give member steps Hands
      → HandsFirst steps rest → NeedsMore rest
      → IsSession may_give member steps Asks

-- a write of what the last drain gave failed: of all that was drained a front of that is the last that was written
pub record IsCutOff (member : ℕ) (steps : List Step) (written : List ℕ) : Type 0 where
  pub earlier : List Step
  pub frames : List (List ℕ)
  pub front : List ℕ
  pub last : steps ≡ earlier ++ drain member frames ∷ []
  pub part : IsPrefix front (stream_of frames)
  pub is : written ≡ bytes_drained earlier ++ front

-- a whole frame stands next
abbrev pub HasFrame : List ℕ → Type 0
HasFrame bytes = (frame : RawFrame) × (more : List ℕ) × IsRaw frame × (bytes ≡ raw_bytes frame ++ more)

-- a call of the store is due: the greeting, the question whether to stop, a drain, or the handing over of a frame
abbrev pub IsDue : List Step → Phase → Type 0
IsDue steps Greets = Unit {0}
IsDue steps Asks = Unit {0}
IsDue steps Looks = ⊥
IsDue steps Drains = Unit {0}
IsDue steps Reads = ⊥
IsDue steps Hands = (rest : List ℕ) × HandsFirst steps rest × HasFrame rest
IsDue steps Ended = ⊥

-- what each end says of the steps: the link or the store said so last; what stands next begins no frame; a read or a
-- write failed; or a call of the store is due, for which memory ran out, or no turn is left
abbrev pub EndsBy : ℕ → List Step → Phase → List ℕ → End → Type 0
EndsBy member steps phase written end.End = IsLast steps (Read Reading.End)
EndsBy member steps phase written end.Stopped = IsLast steps (stop_step true)
EndsBy member steps phase written (end.Framing refusal) =
    (phase ≡ Hands) × (rest : List ℕ) × HandsFirst steps rest × (split_of rest ≡ Split.Refused refusal)
EndsBy member steps phase written end.LinkFault = IsLast steps (Read Reading.Failed) ⊎ IsCutOff member steps written
EndsBy member steps phase written end.OutOfMemory = IsDue steps phase
EndsBy member steps phase written (end.StoreFull n) = IsDue steps phase

-- A whole session by its steps, with the bytes that were written and its end. All that the drains gave was written,
-- unless a write failed
pub record IsTalk (may_give : ℕ → Bool) (member : ℕ) (steps : List Step) (written : List ℕ) (e : End) : Type 0 where
  pub phase : Phase
  pub run : IsSession may_give member steps phase
  pub ends : EndsBy member steps phase written e
  pub front : IsPrefix written (bytes_drained steps)
  pub all : (written ≡ bytes_drained steps) ⊎ ((e ≡ end.LinkFault) × IsCutOff member steps written)

-- what the causes that the steps don't show say of the link's counts of faults and of the tickets known to be drawn
abbrev pub IsCause : ℕ → ℕ → ℕ → ℕ → End → Type 0
IsCause turns before after drawn end.LinkFault = Rose before after
IsCause turns before after drawn (end.StoreFull n) = (n ≡ turns) × (drawn ≡ turns)
IsCause turns before after drawn other = Unit {0}

-- A whole session of a pass over a link, at a store that was opened with this core and has this many turns: its calls
-- stand in the history at the places that the pass gained, its reads and questions are those that the link answered, each
-- once and in order, the link gave the bytes that were read and took those that were written, and no call of it opened the link
pub record Session
    (start : Core) (turns : ℕ) (may_give : ℕ → Bool) (member : ℕ)
    (old : Knowledge Entry) (old_link : Wire) (e : End) (new : Knowledge Entry) (new_link : Wire) : Type 0 where
  pub steps : List Step
  pub written : List ℕ
  pub talk : IsTalk may_give member steps written e
  pub made : Made start old new (calls steps)
  pub drawn : old.drawn ≤ new.drawn
  pub readings : AddsTold old_link.readings new_link.readings (read_answers steps)
  pub permissions : AddsTold old_link.permissions new_link.permissions (tell_answers steps)
  pub read : old_link.left ≡ prepend_known (bytes_read steps) new_link.left
  pub took : new_link.took ≡ append_known old_link.took written
  pub openings : new_link.openings ≡ old_link.openings
  pub later : old_link.faults ≤ new_link.faults
  pub cause : IsCause turns old_link.faults new_link.faults new.drawn e
