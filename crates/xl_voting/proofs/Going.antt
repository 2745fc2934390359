-- An event goes on, part by part.
use Rattle.std.proofs.Common.{◌≡◌, ℕ, ◌+◌, ◌-◌, ◌<◌, ◌≤◌, suc, List, [], ◌∷◌, ◌++◌, drop, get_or, length, map, refl, sym, ap, subst, ◌∙◌, arith, Result, Ok, Err}
use Rattle.std.specs.Prelude.{OnOk}
use Rattle.std.proofs.lemmas.List.{at_drop_more, drop_all}
use Rattle.xl_running.specs.Running.{Running, happens, in_world, world_of}
use Rattle.xl_sched.specs.declared.event.Event.{Event}
use Rattle.xl_sched.specs.declared.named.Named.{Named}
use Rattle.xl_world.specs.Parts.{after_events, delivery_at, drop_at, timer_at}
use Rattle.xl_world.specs.Plans.{up_from}
use Rattle.xl_world.specs.Schedule.{after_event, outcomes}
use Rattle.xl_world.specs.World.{World}
use Rattle.xl_voting.specs.Reports.{behind, events_said, outcomes_said, said_so}
use Rattle.xl_voting.specs.Tallying.{Tallying, tally_keeping}
use Rattle.xl_voting.proofs.Saying.{events_on, said_first}

-- at first it was to go through all parts; now these are left
pub record GoesOn (r0 : Running) (v0 : Tallying) (text0 : List ℕ) (parts : List Event) (r : Running) (v : Tallying) (text : List ℕ) (left : List Event) : Type 0 where
  pub running : r ≡ in_world r0 (world_of r)
  pub world : after_events (world_of r) left ≡ after_events (world_of r0) parts
  pub said : behind text (events_said tally_keeping r0.reading.names (world_of r) v left) ≡ behind text0 (events_said tally_keeping r0.reading.names (world_of r0) v0 parts)

module _ (r0 : Running) (v0 : Tallying) (text0 : List ℕ) (parts : List Event) where
  pub begins : (r : Running) → r ≡ in_world r0 (world_of r0) → GoesOn r0 v0 text0 parts r v0 text0 parts
  begins r is = subst (λ (x : Running). GoesOn r0 v0 text0 parts x v0 text0 parts) (sym is) (record { running = refl; world = refl; said = refl })

  module _ (r : Running) (v : Tallying) (text : List ℕ) where
    pub steps : (e : Event) (left : List Event) (r2 : Running) (v2 : Tallying) (text2 : List ℕ) → GoesOn r0 v0 text0 parts r v text (e ∷ left) → r2 ≡ happens r e →
        said_so text2 v2 ≡ behind text (outcomes_said tally_keeping r.reading.names (after_event (world_of r) e) v (outcomes (world_of r) e)) → GoesOn r0 v0 text0 parts r2 v2 text2 left
    steps e left r2 v2 text2 was is said =
        let next : World = after_event (world_of r) e in
        let names : r.reading.names ≡ r0.reading.names = ap (λ (x : Running). x.reading.names) was.running in
        let same : happens r e ≡ in_world r0 next = ap (λ (x : Running). in_world x next) was.running in
        let on : said_so text2 v2 ≡ behind text (outcomes_said tally_keeping r0.reading.names next v (outcomes (world_of r) e)) =
        said ∙ ap (λ (ns : List Named). behind text (outcomes_said tally_keeping ns next v (outcomes (world_of r) e))) names in
        subst (λ (x : Running). GoesOn r0 v0 text0 parts x v2 text2 left) (sym is)
        (record {
          running = same;
          world = was.world;
          said = events_on r0.reading.names (world_of r) e left text text2 v v2 on ∙ was.said;
        })

    pub world_ends : GoesOn r0 v0 text0 parts r v text [] → r ≡ in_world r0 (after_events (world_of r0) parts)
    world_ends was = was.running ∙ ap (in_world r0) was.world

    pub said_ends : GoesOn r0 v0 text0 parts r v text [] → said_so text v ≡ behind text0 (events_said tally_keeping r0.reading.names (world_of r0) v0 parts)
    said_ends was = said_first text v ∙ was.said

    -- the same parts are left
    pub same_left : (left other : List Event) → left ≡ other → GoesOn r0 v0 text0 parts r v text left → GoesOn r0 v0 text0 parts r v text other
    same_left left other is was = subst (GoesOn r0 v0 text0 parts r v text) is was

-- THE LAST PART

module _ (r0 : Running) (v0 : Tallying) (text0 : List ℕ) (parts : List Event) (r : Running) (v : Tallying) (text : List ℕ) (e : Event) (was : GoesOn r0 v0 text0 parts r v text (e ∷ [])) where
  module _ (r2 : Running) (v2 : Tallying) (text2 : List ℕ) {X E : Type 0} where
    pub last_world : (result : Result X E) → OnOk result (r2 ≡ happens r e) →
        OnOk result (said_so text2 v2 ≡ behind text (outcomes_said tally_keeping r.reading.names (after_event (world_of r) e) v (outcomes (world_of r) e))) →
        OnOk result (r2 ≡ in_world r0 (after_events (world_of r0) parts))
    last_world (Ok x) is said = world_ends r0 v0 text0 parts r2 v2 text2 (steps r0 v0 text0 parts r v text e [] r2 v2 text2 was is said)
    last_world (Err x) is said = tt

    pub last_said : (result : Result X E) → OnOk result (r2 ≡ happens r e) →
        OnOk result (said_so text2 v2 ≡ behind text (outcomes_said tally_keeping r.reading.names (after_event (world_of r) e) v (outcomes (world_of r) e))) →
        OnOk result (said_so text2 v2 ≡ behind text0 (events_said tally_keeping r0.reading.names (world_of r0) v0 parts))
    last_said (Ok x) is said = said_ends r0 v0 text0 parts r2 v2 text2 (steps r0 v0 text0 parts r v text e [] r2 v2 text2 was is said)
    last_said (Err x) is said = tt

-- DELIVERIES

-- the deliveries from a place on, and then the mark moves
abbrev pub deliveries_from : ℕ → ℕ → ℕ → List Event
deliveries_from at place end = map (delivery_at at) (up_from (place + 1) (end - place)) ++ drop_at at ∷ []

pub one_delivery : (at place end : ℕ) → place < end → deliveries_from at place end ≡ delivery_at at (place + 1) ∷ deliveries_from at (place + 1) end
unfolding up_from
one_delivery at place end lt =
    let one : end - place ≡ suc (end - (place + 1)) = omega (arith, lt) in
    ap (λ (n : ℕ). map (delivery_at at) (up_from (place + 1) n) ++ drop_at at ∷ []) one

pub no_delivery : (at place end : ℕ) → end ≤ place → deliveries_from at place end ≡ drop_at at ∷ []
unfolding up_from
no_delivery at place end le =
    let none : end - place ≡ 0 = omega (arith, le) in
    ap (λ (n : ℕ). map (delivery_at at) (up_from (place + 1) n) ++ drop_at at ∷ []) none

-- TIMERS

pub one_timer : (at : ℕ) (numbers : List ℕ) (i node : ℕ) → i < length numbers → node ≡ get_or numbers i node → map (timer_at at) (drop i numbers) ≡ timer_at at node ∷ map (timer_at at) (drop (i + 1) numbers)
one_timer at numbers i node lt is = at_drop_more (λ ns. map (timer_at at) ns) numbers i node lt ∙ ap (λ (n : ℕ). timer_at at n ∷ map (timer_at at) (drop (i + 1) numbers)) (sym is)

pub no_timer : (at : ℕ) (numbers : List ℕ) (i : ℕ) → length numbers ≤ i → map (timer_at at) (drop i numbers) ≡ []
no_timer at numbers i le = ap (map (timer_at at)) (drop_all i numbers le)
