-- Spent worlds, and worlds that are not.
use Rattle.std.proofs.Common.{◌≡◌, ℕ, Bool, true, false, ap, sym, subst, ◌∙◌, inl, inr}
use Rattle.std.proofs.lemmas.Bool.{cases_Bool}
use Rattle.xl_lists.specs.Agreement.{Agree}
use Rattle.xl_sched.specs.declared.event.Event.{Event}
use Rattle.xl_sched.specs.declared.event.What.{What}
use Rattle.xl_world.specs.Ends.{IsLeft, spent_world}
use Rattle.xl_world.specs.Schedule.{IsPlausible, after_event, steps_at}
use Rattle.xl_world.specs.Starts.{IsRun, start}
use Rattle.xl_world.specs.World.{World, run}
use Rattle.xl_world.specs.Worlds.{IsKept}
use Rattle.xl_world.proofs.Lists.{world_agrees}
use Rattle.xl_world.proofs.Runs.{run_stays}
use Rattle.xl_world.proofs.Worldly.{goes_well}

-- a world with this mark
abbrev pub with_spent : World → Bool → World
with_spent w spent = record w { spent = spent }

never : true ≡ false → ⊥
never e = cc

-- a run isn't spent
pub run_unspent : (w : World) → IsRun w → w.spent ≡ false
run_unspent w is_run = ap (λ (u : World). u.spent) is_run.5 ∙ (run_stays (start is_run.0 w.liars is_run.1) is_run.2).spent

pub unspent_same : (w : World) → w.spent ≡ false → with_spent w false ≡ w
unspent_same w h = ap (with_spent w) (sym h)

-- what a world keeps that isn't spent, and what one keeps that is
pub kept_run : (b : Bool) (n w : World) → with_spent n b ≡ w → IsKept b n → w.spent ≡ false → IsRun w
kept_run false n w is kept h = subst (λ (u : World). IsRun u) (sym (unspent_same n (run_unspent n kept.0)) ∙ is) kept.0
kept_run true n w is kept h = absurd (never (ap (λ (u : World). u.spent) is ∙ h))

pub kept_left : (b : Bool) (n w : World) → with_spent n b ≡ w → IsKept b n → w.spent ≡ true → IsLeft w
kept_left false n w is kept h = absurd (never (sym h ∙ sym (ap (λ (u : World). u.spent) is)))
kept_left true n w is kept h = subst IsLeft is kept

-- the network of a world that isn't spent is the world
pub kept_same : (b : Bool) (n w : World) → with_spent n b ≡ w → IsKept b n → b ≡ false → n ≡ w
kept_same false n w is kept h = sym (unspent_same n (run_unspent n kept.0)) ∙ is
kept_same true n w is kept h = absurd (never h)

-- reports that agree in a run agree in what is left of it
left_agrees : (w : World) → IsLeft w → w.forged ≡ 0 → Agree w.liars w.reports
left_agrees w left none =
    let is : w ≡ spent_world left.0 = left.2 in
    subst (λ (u : World). Agree u.liars u.reports) (sym is) (world_agrees left.0 left.1 (subst (λ (u : World). u.forged ≡ 0) is none))

pub all_agree : (w : World) → (w.spent ≡ false → IsRun w) → (w.spent ≡ true → IsLeft w) → w.forged ≡ 0 → Agree w.liars w.reports
all_agree w is_run is_left none = elim (cases_Bool w.spent) [
  | inl spent ↦ left_agrees w (is_left spent) none
  | inr going ↦ world_agrees w (is_run going) none
]

-- AN EVENT

-- what an event leaves that comes to its end
pub event_same : (b : Bool) (n v w : World) (e : Event) → with_spent n b ≡ w → IsKept b n → b ≡ false → v ≡ run n (steps_at n e.at e.what) → with_spent v b ≡ after_event w e
event_same false n v w e is kept going ran =
    let unspent : v.spent ≡ false = ap (λ (u : World). u.spent) ran ∙ ((run_stays n (steps_at n e.at e.what)).spent ∙ run_unspent n kept.0) in
    unspent_same v unspent ∙ (ran ∙ ap (λ (u : World). run u (steps_at u e.at e.what)) (kept_same false n w is kept going))
event_same true n v w e is kept going ran = absurd (never going)

pub kept_on : (b : Bool) (n v : World) (at : ℕ) (happening : What) → b ≡ false → v ≡ run n (steps_at n at happening) → IsPlausible happening → IsKept b n → IsKept b v
kept_on false n v at happening going ran plausible kept = goes_well n v at happening ran plausible kept
kept_on true n v at happening going ran plausible kept = absurd (never going)
