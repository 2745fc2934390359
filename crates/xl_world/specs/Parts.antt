-- An event in parts, one delivery or one node's timer each. Source: this project's schedule language.
use Rattle.std.specs.Prelude.{◌≡◌, ℕ, ◌+◌, ◌-◌, List, [], ◌∷◌, ◌++◌, length, map}
use Rattle.xl_sched.specs.declared.event.Ask.TheVariants as ask
use Rattle.xl_sched.specs.declared.event.Event.{Event}
use Rattle.xl_sched.specs.declared.event.What.{What}
use Rattle.xl_sched.specs.declared.event.What.TheVariants as what
use Rattle.xl_world.specs.declared.outcome.Outcome.{Outcome}
use Rattle.xl_world.specs.Plans.{up_from}
use Rattle.xl_world.specs.Schedule.{after_event, outcomes}
use Rattle.xl_world.specs.World.{World}

-- the frame of a place is delivered
abbrev pub delivery_at : ℕ → ℕ → Event
delivery_at at place = record { at = at; what = what.Deliver place }

-- a node's timer
abbrev pub timer_at : ℕ → ℕ → Event
timer_at at node = record { at = at; what = what.Ask (ask.Timer node) }

-- the mark moves to the end
abbrev pub drop_at : ℕ → Event
drop_at at = record { at = at; what = what.Drop }

-- what happens at a moment, part by part: the frames that are sent by then and stand after the mark, and a timer at each
-- declared number
abbrev pub parts_at : World → ℕ → What → List Event
parts_at w at what.All = map (delivery_at at) (up_from (w.mark + 1) (length w.sent - w.mark)) ++ drop_at at ∷ []
parts_at w at what.Timers = map (timer_at at) w.numbers
parts_at w at happening = record { at = at; what = happening } ∷ []

abbrev pub parts_of : World → Event → List Event
parts_of w e = parts_at w e.at e.what

-- the world after events, one after the other
abbrev pub after_events : World → List Event → World
after_events w [] = w
after_events w (e ∷ es) = after_events (after_event w e) es

-- and what is told of them
abbrev pub outcomes_in : World → List Event → List Outcome
outcomes_in w [] = []
outcomes_in w (e ∷ es) = outcomes w e ++ outcomes_in (after_event w e) es

-- The parts of an event lead to its world, and tell what it tells.
pub record AreWhole (w : World) (e : Event) : Type 0 where
  pub world : after_events w (parts_of w e) ≡ after_event w e
  pub told : outcomes_in w (parts_of w e) ≡ outcomes w e

abbrev pub PartsAreTheWhole : Type 0
PartsAreTheWhole = (w : World) (e : Event) → AreWhole w e
