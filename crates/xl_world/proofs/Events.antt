-- Each event of a schedule leaves a world at rest.
use Rattle.std.proofs.Common.{◌≡◌, ℕ, Bool, List, [], ◌∷◌, ◌++◌, drop, refl, sym, Option, Some, None, subst}
use Rattle.std.specs.Prelude.{◌==◌, option_map, option_to_list}
use Rattle.std.proofs.lemmas.Bool.{cond_both}
use Rattle.xl_io.specs.Keepers.{may_hold}
use Rattle.xl_core.specs.Core.{core_asks}
use Rattle.xl_core.specs.declared.event.CoreEvent.{CoreEvent}
use Rattle.xl_core.specs.declared.event.CoreEvent.TheVariants.{Frame, Timer, Submit, Greet, Relist}
use Rattle.xl_sched.specs.declared.event.What.{What}
use Rattle.xl_sched.specs.declared.event.What.TheVariants as what
use Rattle.xl_world.specs.declared.place.Fate.TheVariants.{Saved}
use Rattle.xl_world.specs.declared.place.Place.{Place}
use Rattle.xl_world.specs.Sending.{Sent}
use Rattle.xl_world.specs.Emptying.{event_steps}
use Rattle.xl_world.specs.Disk.{found, held_by, left_by, restored}
use Rattle.xl_world.specs.Rested.{IsAtRest, IsRested}
use Rattle.xl_world.specs.Schedule.{cut_at, cut_short, deliveries, delivery, delivery_of, event_asked, failing, frame_at, greet_steps, lied_bytes, node_asked, restart, steps_at, timers}
use Rattle.xl_world.specs.World.{Again, Mark, Step, World, again, asked_at, core_again, moment_in, place_at, reopened_world, run, step, torn_world}
use Rattle.xl_world.proofs.Resting.{event_rests, put_rests}
use Rattle.xl_world.proofs.Runs.{run-append}
use Rattle.xl_world.proofs.Seats.{some_same}

-- MARKS AND RESTARTS

mark_rests : (w : World) → IsAtRest w → IsAtRest (step w Mark)
mark_rests w rest = record { numbers = rest.numbers; cores = rest.cores }

-- a node that is opened again has no report, and its keys
reopened_rests : (w : World) (i : ℕ) (p : Place) (now number : ℕ) → IsRested p.core → IsAtRest w → IsAtRest (reopened_world w i p now number)
reopened_rests w i p now number rested rest =
    put_rests w (reopened_world w i p now number) (record { core = core_again p now number; disk = restored p.disk number }) refl refl
    (record { untaken = refl; keys = rested.keys }) rest

again_rests : (w : World) (i now number : ℕ) (o : Option Place) → ((p : Place) → o ≡ Some p → IsRested p.core) → IsAtRest w → IsAtRest (again w i now number o)
again_rests w i now number None rested rest = rest
again_rests w i now number (Some p) rested rest =
    cond_both (may_hold (held_by p.disk) number) (reopened_world w i p now number) w IsAtRest (λ _. reopened_rests w i p now number (rested p refl) rest) (λ _. rest)

torn_rests : (w : World) (i now number : ℕ) (o : Option Place) (asked : Option ℕ) → ((p : Place) → o ≡ Some p → IsRested p.core) → IsAtRest w → IsAtRest (torn_world w i now number o asked)
torn_rests w i now number None asked rested rest = rest
torn_rests w i now number (Some p) None rested rest = rest
torn_rests w i now number (Some p) (Some s) rested rest =
    let q : Place = record { core = p.core; disk = record p.disk { asked = Some s } } in
    again_rests w i now number (Some q) (λ x same. subst (λ (y : Place). IsRested y.core) (sym (some_same q x same)) (rested p refl)) rest

step_rests : (w : World) (i now number : ℕ) → IsAtRest w → IsAtRest (step w (Again i now number))
step_rests w i now number rest = again_rests w i now number (place_at i w.places) (λ p at. rest.cores i p at) rest

-- ONE EVENT AFTER THE OTHER

-- the world after these steps, and after more
more_rests : (w : World) (ss ts : List Step) → IsAtRest (run (run w ss) ts) → IsAtRest (run w (ss ++ ts))
more_rests w ss ts rest = subst IsAtRest (sym (run-append w ss ts)) rest

timers_rest : (w : World) (at : ℕ) (is : List ℕ) → IsAtRest w → IsAtRest (run w (timers w at is))
timers_rest w at [] rest = rest
timers_rest w at (i ∷ is) rest =
    let steps : List Step = event_steps w i (Timer at) Saved in
    more_rests w steps (timers (run w steps) at is) (timers_rest (run w steps) at is (event_rests w i (Timer at) Saved rest))

deliveries_rest : (w : World) (at : ℕ) (fs : List Sent) → IsAtRest w → IsAtRest (run w (deliveries w at fs))
deliveries_rest w at [] rest = rest
deliveries_rest w at (f ∷ fs) rest =
    let steps : List Step = delivery w at f in
    more_rests w steps (deliveries (run w steps) at fs) (deliveries_rest (run w steps) at fs (event_rests w f.to (Frame at f.bytes) Saved rest))

delivery_rests : (w : World) (at : ℕ) (o : Option Sent) → IsAtRest w → IsAtRest (run w (delivery_of w at o))
delivery_rests w at None rest = rest
delivery_rests w at (Some f) rest = event_rests w f.to (Frame at f.bytes) Saved rest

greeting_rests : (w : World) (node peer : ℕ) → IsAtRest w → IsAtRest (run w (greet_steps w node peer))
greeting_rests w node peer rest =
    cond_both (node == peer) [] (event_steps w node (Greet peer) Saved) (λ ss. IsAtRest (run w ss)) (λ _. rest) (λ _. event_rests w node (Greet peer) Saved rest)

restart_rests : (w : World) (at i : ℕ) → IsAtRest w → (o : Option Place) → IsAtRest (run w (option_to_list (option_map (restart at) o)))
restart_rests w at i rest None = rest
restart_rests w at i rest (Some p) = step_rests w p.core.node.me at (found p.disk) rest

cut_rests : (w : World) (at : ℕ) (new : Bool) (i : ℕ) (e : CoreEvent) → IsAtRest w → (o : Option Place) → IsAtRest (run w (cut_at w at new i e o))
cut_rests w at new i e rest None = rest
cut_rests w at new i e rest (Some p) = by_save (core_asks p.core e)
  where
    by_save : (asked : Option ℕ) → IsAtRest (run w (cut_short w at new i e p asked))
    by_save None =
        more_rests w (event_steps w i e Saved) (Again i at (left_by p.disk new None) ∷ [])
        (step_rests (run w (event_steps w i e Saved)) i at (left_by p.disk new None) (event_rests w i e Saved rest))
    by_save (Some s) = torn_rests w i (moment_in e) (left_by p.disk new (Some s)) (place_at i w.places) (asked_at (place_at i w.places) e) (λ q at_i. rest.cores i q at_i) rest

-- each event's steps leave it at rest
pub event_leaves : (w : World) (at : ℕ) (happening : What) → IsAtRest w → IsAtRest (run w (steps_at w at happening))
event_leaves w at (what.Ask ask) rest = event_rests w (node_asked ask) (event_asked at ask) Saved rest
event_leaves w at what.Timers rest = timers_rest w at w.numbers rest
event_leaves w at (what.Submit node tx) rest = event_rests w node (Submit at tx) Saved rest
event_leaves w at (what.Greet node peer) rest = greeting_rests w node peer rest
event_leaves w at (what.Deliver place) rest = delivery_rests w at (frame_at w.sent place) rest
event_leaves w at what.All rest =
    let steps : List Step = deliveries w at (drop w.mark w.sent) in
    more_rests w steps (Mark ∷ []) (mark_rests (run w steps) (deliveries_rest w at (drop w.mark w.sent) rest))
event_leaves w at what.Drop rest = mark_rests w rest
event_leaves w at (what.Restart node) rest = restart_rests w at node rest (place_at node w.places)
event_leaves w at (what.Cut new ask) rest = cut_rests w at new (node_asked ask) (event_asked at ask) rest (place_at (node_asked ask) w.places)
event_leaves w at (what.Fail new ask) rest = event_rests w (node_asked ask) (event_asked at ask) (failing new) rest
event_leaves w at (what.Lie from to lie) rest = event_rests w to (Frame at (lied_bytes from to lie)) Saved rest
event_leaves w at (what.Raw to bytes) rest = event_rests w to (Frame at bytes) Saved rest
event_leaves w at (what.Prefer node) rest = rest
event_leaves w at (what.List node list) rest = event_rests w node (Relist at list) Saved rest
event_leaves w at (what.Heard node) rest = rest
