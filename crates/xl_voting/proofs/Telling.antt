-- What is kept says at each event what the list of all votes and flag reports says.
use Rattle.std.proofs.Common.{◌≡◌, ℕ, ◌%◌, ◌+◌, ◌-◌, Bool, true, false, List, [], ◌∷◌, ◌++◌, refl, ap, subst, ◌∙◌, Option, Some, None, length}
use Rattle.std.specs.Prelude.{◌==◌, ◌&&◌, nat_lt, All, map, option_map, if◌then◌else◌}
use Rattle.std.proofs.lemmas.List.Elements.{All-append, All-cons, All-filter, All-head, All-nil, All-tail}
use Rattle.xl_base.specs.declared.ids.LedgerId.{LedgerId}
use Rattle.xl_core.specs.Core.{Core}
use Rattle.xl_flags.proofs.Remembering.{IsMember}
use Rattle.xl_sched.specs.declared.event.Event.{Event}
use Rattle.xl_sched.specs.declared.event.What.{What}
use Rattle.xl_sched.specs.declared.event.What.TheVariants as what
use Rattle.xl_sched.specs.declared.named.Named.{Named}
use Rattle.xl_validations.specs.Rows.{current_of, is_full_of}
use Rattle.xl_world.specs.declared.outcome.Outcome.{Outcome}
use Rattle.xl_world.specs.declared.outcome.Outcome.TheVariants.{Full}
use Rattle.xl_world.specs.declared.place.Place.{Place}
use Rattle.xl_world.specs.Parts.{delivery_at, drop_at, parts_at, parts_of, timer_at}
use Rattle.xl_world.specs.Plans.{up_from}
use Rattle.xl_world.specs.Schedule.{IsPlausible, after_event, outcomes, steps_of}
use Rattle.xl_world.specs.Starts.{IsRun}
use Rattle.xl_world.specs.World.{World, core_in, place_at}
use Rattle.xl_world.proofs.Fitting.{steps_fit}
use Rattle.xl_world.proofs.Reporters.{placed_member}
use Rattle.xl_world.proofs.Runs.{run_on}
use Rattle.xl_voting.specs.Listing.{Listing, list_keeping}
use Rattle.xl_voting.specs.Reports.{Said, silent, behind, close_of, counted_by, is_due, flag_said, known_said, core_said, report_said, outcome_said, outcomes_said, events_said, event_said}
use Rattle.xl_voting.specs.Tallying.{Tallying, tally_keeping}
use Rattle.xl_voting.specs.Texts.{flag_lines}
use Rattle.xl_voting.proofs.StandingFor.{StandsFor, reported_stands, same_news}
use Rattle.xl_voting.proofs.ValidLists.{placed_valid}

-- the same is said, and what is kept then stands for the list then
pub record SaysSame (a : Said Tallying) (b : Said Listing) : Type 0 where
  pub text : a.text ≡ b.text
  pub votes : StandsFor a.votes b.votes

silent_same : (t : Tallying) (l : Listing) → StandsFor t l → SaysSame (silent t) (silent l)
silent_same t l is = record { text = refl; votes = is }

-- A REPORT

-- a node of a world has a member's number, and so have those on its list
record IsCounting (i : ℕ) (c : Core) : Type 0 where
  pub member : IsMember i
  pub members : All IsMember c.node.list.members

core_counting : (w : World) → IsRun w → (i : ℕ) (c : Core) (o : Option Place) → place_at i w.places ≡ o → option_map (λ p. p.core) o ≡ Some c → IsCounting i c
core_counting w is i c None at there = absurd cc
core_counting w is i c (Some p) at there =
    let member = placed_member w is i p at in
    let same : p.core ≡ c = some_injective p.core c there in
    record { member = (member.least, member.greatest); members = subst (λ (x : Core). All IsMember x.node.list.members) same (placed_valid w is i p at).numbers }
  where
    some_injective : (x y : Core) → Some x ≡ Some y → x ≡ y
    some_injective x y e = cc

module _ (names : List Named) (t : Tallying) (l : Listing) (is : StandsFor t l) where
  flag_same : (i s close : ℕ) (counted : List ℕ) → IsMember i → All IsMember counted →
      SaysSame (flag_said tally_keeping names t i s close counted) (flag_said list_keeping names l i s close counted)
  flag_same i s close counted member members = record {
    text = ap (flag_lines names) (same_news t l is i s close counted member members);
    votes = reported_stands t l is i s close counted member members;
  }

  known_same : (i s : ℕ) (id : LedgerId) (c : Core) → IsCounting i c → (o : Option ℕ) → SaysSame (known_said tally_keeping names t i s id c o) (known_said list_keeping names l i s id c o)
  known_same i s id c counting None = silent_same t l is
  known_same i s id c counting (Some close) =
      flag_same i s close (counted_by c s id) counting.member (All-filter (λ m. is_full_of s id (current_of c.node.rows m)) IsMember c.node.list.members counting.members)

  due_same : (i s : ℕ) → IsMember i → is_due tally_keeping t i s ≡ is_due list_keeping l i s
  due_same i s member = ap (λ (n : ℕ). s % 256 == 0 && nat_lt n s) (is.last i member.0 member.1)

  nothing_same : (a b : Bool) → SaysSame (if a then silent t else silent t) (if b then silent l else silent l)
  nothing_same true true = silent_same t l is
  nothing_same true false = silent_same t l is
  nothing_same false true = silent_same t l is
  nothing_same false false = silent_same t l is

  core_same : (i s : ℕ) (id : LedgerId) (c : Core) → IsCounting i c → (a b : Bool) → a ≡ b →
      SaysSame (if a then core_said tally_keeping names t i s id (Some c) else silent t) (if b then core_said list_keeping names l i s id (Some c) else silent l)
  core_same i s id c counting true true same = known_same i s id c counting (close_of c id)
  core_same i s id c counting false false same = silent_same t l is
  core_same i s id c counting true false same = absurd cc
  core_same i s id c counting false true same = absurd cc

  module _ (w : World) (is_run : IsRun w) where
    report_same : (i s : ℕ) (id : LedgerId) → SaysSame (report_said tally_keeping names w t i s id) (report_said list_keeping names w l i s id)
    report_same i s id = by (core_in w i) refl
      where
        by : (o : Option Core) → core_in w i ≡ o →
            SaysSame (if is_due tally_keeping t i s then core_said tally_keeping names t i s id o else silent t) (if is_due list_keeping l i s then core_said list_keeping names l i s id o else silent l)
        by None there = nothing_same (is_due tally_keeping t i s) (is_due list_keeping l i s)
        by (Some c) there =
            let counting : IsCounting i c = core_counting w is_run i c (place_at i w.places) refl there in
            core_same i s id c counting (is_due tally_keeping t i s) (is_due list_keeping l i s) (due_same i s counting.member)

    outcome_same : (o : Outcome) → SaysSame (outcome_said tally_keeping names w t o) (outcome_said list_keeping names w l o)
    outcome_same (Full node seq id) = report_same node seq id
    outcome_same other = silent_same t l is

-- ONE AFTER THE OTHER

behind_same : (a : Said Tallying) (b : Said Listing) (x : Said Tallying) (y : Said Listing) → SaysSame a b → SaysSame x y → SaysSame (behind a.text x) (behind b.text y)
behind_same a b x y first then_same = record {
  text = ap (λ (text : List ℕ). text ++ x.text) first.text ∙ ap (λ (text : List ℕ). b.text ++ text) then_same.text;
  votes = then_same.votes;
}

pub outcomes_same : (names : List Named) (w : World) → IsRun w → (t : Tallying) (l : Listing) → StandsFor t l → (os : List Outcome) →
    SaysSame (outcomes_said tally_keeping names w t os) (outcomes_said list_keeping names w l os)
outcomes_same names w is_run t l is [] = silent_same t l is
outcomes_same names w is_run t l is (o ∷ os) =
    let first : SaysSame (outcome_said tally_keeping names w t o) (outcome_said list_keeping names w l o) = outcome_same names t l is w is_run o in
    behind_same (outcome_said tally_keeping names w t o) (outcome_said list_keeping names w l o) _ _ first
    (outcomes_same names w is_run (outcome_said tally_keeping names w t o).votes (outcome_said list_keeping names w l o).votes first.votes os)

abbrev Plausible : Event → Type 0
Plausible e = IsPlausible e.what

after_run : (w : World) (e : Event) → IsPlausible e.what → IsRun w → IsRun (after_event w e)
after_run w e plausible is_run = run_on w (after_event w e) (steps_of w e) refl (steps_fit w e.at e.what plausible) is_run

events_same : (names : List Named) (w : World) → IsRun w → (t : Tallying) (l : Listing) → StandsFor t l → (es : List Event) → All Plausible es →
    SaysSame (events_said tally_keeping names w t es) (events_said list_keeping names w l es)
events_same names w is_run t l is [] plausible = silent_same t l is
events_same names w is_run t l is (e ∷ es) plausible =
    let next : IsRun (after_event w e) = after_run w e (All-head Plausible e es plausible) is_run in
    let a : Said Tallying = outcomes_said tally_keeping names (after_event w e) t (outcomes w e) in
    let b : Said Listing = outcomes_said list_keeping names (after_event w e) l (outcomes w e) in
    let first : SaysSame a b = outcomes_same names (after_event w e) next t l is (outcomes w e) in
    behind_same a b _ _ first (events_same names (after_event w e) next a.votes b.votes first.votes es (All-tail Plausible e es plausible))

-- AN EVENT

one_plausible : (e : Event) → IsPlausible e.what → All Plausible (e ∷ [])
one_plausible e plausible = All-cons Plausible e [] plausible (All-nil Plausible)

each_plausible : (f : ℕ → Event) → ((n : ℕ) → Plausible (f n)) → (ns : List ℕ) → All Plausible (map f ns)
each_plausible f plausible [] = All-nil Plausible
each_plausible f plausible (n ∷ ns) = All-cons Plausible (f n) (map f ns) (plausible n) (each_plausible f plausible ns)

parts_plausible : (w : World) (at : ℕ) (x : What) → IsPlausible x → All Plausible (parts_at w at x)
parts_plausible w at what.All plausible =
    All-append Plausible (map (delivery_at at) (up_from (w.mark + 1) (length w.sent - w.mark))) (drop_at at ∷ []) (each_plausible (delivery_at at) (λ n. tt) (up_from (w.mark + 1) (length w.sent - w.mark)))
    (one_plausible (drop_at at) tt)
parts_plausible w at what.Timers plausible = each_plausible (timer_at at) (λ n. tt) w.numbers
parts_plausible w at other plausible = one_plausible _ plausible

pub event_same : (names : List Named) (w : World) → IsRun w → (t : Tallying) (l : Listing) → StandsFor t l → (e : Event) → IsPlausible e.what →
    SaysSame (event_said tally_keeping names w t e) (event_said list_keeping names w l e)
event_same names w is_run t l is e plausible = events_same names w is_run t l is (parts_of w e) (parts_plausible w e.at e.what plausible)
