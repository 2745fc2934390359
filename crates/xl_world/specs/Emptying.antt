-- A schedule's event at a core, after which nothing waits: the report that arose, if any, is handed out, and the core
-- is drained for each other declared number until a drain gives nothing. Source: this project's schedule language.
use Rattle.std.specs.Prelude.{◌≡◌, ℕ, zero, suc, ◌==◌, not, List, [], ◌∷◌, ◌++◌, All, false, filter, length, map, if◌then◌else◌}
use Rattle.std.specs.Prelude.{Some, None}
use Rattle.std.specs.declared.option.Option.{Option}
use Rattle.xl_core.specs.declared.event.CoreEvent.{CoreEvent}
use Rattle.xl_core.specs.declared.event.CoreEvent.TheVariants.{Drain, Reports}
use Rattle.xl_wire.specs.Lengths.{longest_frame}
use Rattle.xl_core.specs.Answers.{given_in}
use Rattle.xl_core.specs.Core.{Core, CoreReply, all_frames, core_happens}
use Rattle.xl_core.specs.Issuing.Save.{Kept as AnsweredOk}
use Rattle.xl_world.specs.Sending.{Sent}
use Rattle.xl_world.specs.declared.place.Fate.{Fate}
use Rattle.xl_world.specs.declared.place.Fate.TheVariants.{Saved}
use Rattle.xl_world.specs.declared.place.Place.{Place}
use Rattle.xl_world.specs.World.{World, Step, Act, place_at, reply_at, sent_in}

-- the core after these events, each of whose saves is answered with Ok
abbrev pub after_events : Core → List CoreEvent → Core
after_events core [] = core
after_events core (e ∷ es) = after_events (core_happens core e AnsweredOk).core es

-- the frames that they give
abbrev pub given_by : Core → List CoreEvent → List Sent
given_by core [] = []
given_by core (e ∷ es) =
    let reply = core_happens core e AnsweredOk in
    sent_in core.node.me reply.answer ++ given_by reply.core es

-- the core after the report that arose was handed out
abbrev pub handed_out : Core → Core
handed_out core = (core_happens core (Reports 1) AnsweredOk).core

-- what comes of one drain for a member
abbrev pub drained_once : Core → ℕ → CoreReply
drained_once core member = core_happens core (Drain member longest_frame) AnsweredOk

-- drains for a member until one gives nothing, this many more at most
abbrev pub drains : Core → ℕ → ℕ → List CoreEvent
drains core member zero = Drain member longest_frame ∷ []
drains core member (suc more) =
    let reply = drained_once core member in
    Drain member longest_frame ∷ (if length (given_in reply.answer) == 0 then [] else drains reply.core member more)

-- each that gives something takes one at least of the frames that are left
abbrev pub drains_for : Core → ℕ → List CoreEvent
drains_for core member = drains core member (length (all_frames core member))

-- for each of these numbers, one after the other
abbrev pub drains_in_turn : Core → List ℕ → List CoreEvent
drains_in_turn core [] = []
drains_in_turn core (m ∷ ms) = drains_for core m ++ drains_in_turn (after_events core (drains_for core m)) ms

-- the numbers but this one
abbrev pub others : List ℕ → ℕ → List ℕ
others numbers me = filter (λ member. not (member == me)) numbers

-- what waits for the other declared numbers is drained
abbrev pub drains_of : List ℕ → Core → List CoreEvent
drains_of numbers core = drains_in_turn core (others numbers core.node.me)

-- the report that arose is handed out before
abbrev pub drains_and_report : List ℕ → Core → List CoreEvent
drains_and_report numbers core = Reports 1 ∷ drains_of numbers (handed_out core)

abbrev pub emptying_at : List ℕ → ℕ → CoreEvent → Fate → Option Place → List Step
emptying_at numbers i event fate None = []
emptying_at numbers i event fate (Some p) = map (λ e. Act i e Saved) (drains_and_report numbers (reply_at p event fate).core)

-- an event at a core, after which it is emptied
abbrev pub event_steps : World → ℕ → CoreEvent → Fate → List Step
event_steps w i event fate = Act i event fate ∷ emptying_at w.numbers i event fate (place_at i w.places)

-- no frame is left for another declared number
abbrev pub IsEmptied : List ℕ → Core → Type 0
IsEmptied numbers core = All (λ member. (member == core.node.me) ≡ false → all_frames core member ≡ []) numbers
