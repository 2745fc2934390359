-- What is kept tells of a schedule what the list of all that was heard tells.
use Rattle.std.proofs.Common.{◌≡◌, ℕ, Bool, List, [], ◌∷◌, refl, ap, subst, Option, Some, None}
use Rattle.xl_base.specs.Counts.{one_more}
use Rattle.xl_base.specs.declared.ids.LedgerId.{LedgerId}
use Rattle.xl_lines.specs.Lines.{lines_of}
use Rattle.xl_lines.specs.Rules.{Step, goes_on, refuses as stops, finds}
use Rattle.xl_lines.specs.Soon.{told_soon, unclosed, answerable}
use Rattle.xl_lines.specs.Told.{told_of}
use Rattle.xl_lists.specs.declared.said.SaidLedger.{SaidLedger}
use Rattle.xl_running.specs.Running.{Running, answer_in, beyond, knows, limits, world_of}
use Rattle.xl_running.specs.Texts.{bad_line}
use Rattle.xl_running.proofs.Alike.{AreAlike, DoAlike, told_alike}
use Rattle.xl_sched.specs.declared.line.Line.{Line}
use Rattle.xl_sched.specs.declared.line.Line.TheVariants as line
use Rattle.xl_sched.specs.Answers.{LineAnswer, passes, gives, refuses}
use Rattle.xl_spelling.specs.Spellings.{list_line, spelling}
use Rattle.xl_world.specs.declared.outcome.Outcome.{Outcome}
use Rattle.xl_world.specs.declared.outcome.Outcome.TheVariants as outcome
use Rattle.xl_world.specs.Schedule.{outcomes}
use Rattle.xl_negative.specs.Hearing.{heard_at}
use Rattle.xl_negative.specs.Listing.{list_keeping}
use Rattle.xl_negative.specs.Ringing.{Places, ring_keeping}
use Rattle.xl_negative.specs.Seats.{Seat, hears, seat_at, with_leaving_out}
use Rattle.xl_negative.specs.Writing.{Change, Writing, step_adding, after_answer, after_line, after_outcome, after_outcomes, after_report, and_then, at_first, change_at, copied, told_at_end, goes_over, after_event, ledgers_at, negative_of, negative_soon, rules, as_line}
use Rattle.xl_negative.proofs.StandingFor.{AllStandFor, change_same, first_stand, hears_stand, leaving_stand, listing_stand, seat_stands, what_stand}

-- the same schedule runs, and what is kept stands for the list
record Like (p : Writing Places) (q : Writing (List SaidLedger)) : Type 0 where
  pub running : p.running ≡ q.running
  pub lines : p.lines ≡ q.lines
  pub seats : AllStandFor p.seats q.seats

abbrev state : {H : Type 0} → Running → ℕ → List (Seat H) → Writing H
state r n seats = record { running = r; lines = n; seats = seats }

-- what holds of such states holds of any that are alike
alike_by : (P : Writing Places → Writing (List SaidLedger) → Type 0) → ((r : Running) (n : ℕ) (ps : List (Seat Places)) (qs : List (Seat (List SaidLedger))) → AllStandFor ps qs → P (state r n ps) (state r n qs)) →
    (p : Writing Places) (q : Writing (List SaidLedger)) → Like p q → P p q
alike_by P of_states p q like =
    subst (λ (r : Running). P p (state r q.lines q.seats)) like.running
    (subst (λ (n : ℕ). P p (state p.running n q.seats)) like.lines (of_states p.running p.lines p.seats q.seats like.seats))

then_alike : (f : Writing Places → List ℕ → Step (Writing Places)) (g : Writing (List SaidLedger) → List ℕ → Step (Writing (List SaidLedger))) →
    ((p : Writing Places) (q : Writing (List SaidLedger)) (text : List ℕ) → Like p q → AreAlike Like (f p text) (g q text)) →
    (x : Step (Writing Places)) (y : Step (Writing (List SaidLedger))) → AreAlike Like x y → AreAlike Like (and_then f x) (and_then g y)
unfolding and_then
then_alike f g further (goes_on text p) (goes_on other q) alike = subst (λ (t : List ℕ). AreAlike Like (f p text) (g q t)) alike.0 (further p q text alike.1)
then_alike f g further (stops text) (stops other) alike = alike
then_alike f g further (finds text) (finds other) alike = alike
then_alike f g further one other alike = absurd alike

-- ONE SCHEDULE

module _ (r : Running) (n : ℕ) (ps : List (Seat Places)) (qs : List (Seat (List SaidLedger))) (stand : AllStandFor ps qs) where
  as_like : Like (state r n ps) (state r n qs)
  as_like = record { running = refl; lines = refl; seats = stand }

  added_alike : (text bytes : List ℕ) (a : LineAnswer) → AreAlike Like (step_adding (state r n ps) text bytes a) (step_adding (state r n qs) text bytes a)
  added_alike text bytes (passes reading) = (refl, record { running = refl; lines = refl; seats = stand })
  added_alike text bytes (gives l reading) = (refl, record { running = refl; lines = refl; seats = stand })
  added_alike text bytes (refuses why) = refl

over_alike : (r : Running) (n : ℕ) (ps : List (Seat Places)) (qs : List (Seat (List SaidLedger))) → AllStandFor ps qs → (text : List ℕ) (i : ℕ) (c : Option Change) →
    AreAlike Like (goes_over ring_keeping (state r n ps) text i c) (goes_over list_keeping (state r n qs) text i c)
over_alike r n ps qs stand text i None = (refl, as_like r n ps qs stand)
over_alike r n ps qs stand text i (Some c) =
    let bytes : List ℕ = spelling (list_line r.reading i c.list) in
    added_alike r n (with_leaving_out ring_keeping ps i c.negative) (with_leaving_out list_keeping qs i c.negative) (leaving_stand ps qs stand i c.negative) text bytes (answer_in r bytes)

report_alike : (text : List ℕ) (i seq : ℕ) (id : LedgerId) (r : Running) (n : ℕ) (ps : List (Seat Places)) (qs : List (Seat (List SaidLedger))) → AllStandFor ps qs →
    AreAlike Like (after_report ring_keeping (state r n ps) text i seq id) (after_report list_keeping (state r n qs) text i seq id)
report_alike text i seq id r n ps qs stand =
    subst (λ (c : Option Change). AreAlike Like (after_report ring_keeping (state r n ps) text i seq id) (goes_over list_keeping (state r n qs) text i c))
    (change_same (seat_at ring_keeping ps i) (seat_at list_keeping qs i) (seat_stands ps qs stand i) i (ledgers_at r.world i) seq id)
    (over_alike r n ps qs stand text i (change_at ring_keeping (seat_at ring_keeping ps i) i (ledgers_at r.world i) seq id))

outcome_alike : (p : Writing Places) (q : Writing (List SaidLedger)) (text : List ℕ) (o : Outcome) → Like p q → AreAlike Like (after_outcome ring_keeping p text o) (after_outcome list_keeping q text o)
outcome_alike p q text (outcome.Full i seq id) like =
    alike_by (λ (x : Writing Places) (y : Writing (List SaidLedger)). AreAlike Like (after_report ring_keeping x text i seq id) (after_report list_keeping y text i seq id)) (report_alike text i seq id) p q like
outcome_alike p q text other like = (refl, like)

outcomes_alike : (os : List Outcome) (p : Writing Places) (q : Writing (List SaidLedger)) (text : List ℕ) → Like p q → AreAlike Like (after_outcomes ring_keeping p text os) (after_outcomes list_keeping q text os)
outcomes_alike [] p q text like = (refl, like)
outcomes_alike (o ∷ os) p q text like =
    then_alike (λ next more. after_outcomes ring_keeping next more os) (λ next more. after_outcomes list_keeping next more os) (λ next other more alike. outcomes_alike os next other more alike)
    (after_outcome ring_keeping p text o) (after_outcome list_keeping q text o) (outcome_alike p q text o like)

line_alike : (r : Running) (n : ℕ) (ps : List (Seat Places)) (qs : List (Seat (List SaidLedger))) → AllStandFor ps qs → (text : List ℕ) (l : Line) →
    AreAlike Like (after_line ring_keeping (state r n ps) text l) (after_line list_keeping (state r n qs) text l)
line_alike r n ps qs stand text (line.Node me list validating) = (refl, record { running = refl; lines = refl; seats = listing_stand ps qs stand me list })
line_alike r n ps qs stand text (line.Event e) =
    let hs = heard_at (world_of r) e in
    outcomes_alike (outcomes (world_of r) e) (after_event ring_keeping (state r n ps) e) (after_event list_keeping (state r n qs) e) text
    (record { running = refl; lines = refl; seats = what_stand (hears ring_keeping ps hs) (hears list_keeping qs hs) (hears_stand hs ps qs stand) e.what })
line_alike r n ps qs stand text other = (refl, record { running = refl; lines = refl; seats = stand })

answer_alike : (bytes : List ℕ) (has_ended : Bool) (a : LineAnswer) (r : Running) (n : ℕ) (ps : List (Seat Places)) (qs : List (Seat (List SaidLedger))) → AllStandFor ps qs →
    AreAlike Like (after_answer ring_keeping (state r n ps) bytes has_ended a) (after_answer list_keeping (state r n qs) bytes has_ended a)
answer_alike bytes has_ended (passes reading) r n ps qs stand = (refl, record { running = refl; lines = refl; seats = stand })
answer_alike bytes has_ended (gives l reading) r n ps qs stand = line_alike (knows r reading) (one_more n) ps qs stand (as_line (copied bytes has_ended)) l
answer_alike bytes has_ended (refuses why) r n ps qs stand = refl

-- THE WHOLE

step_alike : (p : Writing Places) (q : Writing (List SaidLedger)) (bytes : List ℕ) (has_ended : Bool) → Like p q → AreAlike Like ((rules ring_keeping).step p bytes has_ended) ((rules list_keeping).step q bytes has_ended)
step_alike p q bytes has_ended like =
    alike_by (λ (x : Writing Places) (y : Writing (List SaidLedger)). AreAlike Like ((rules ring_keeping).step x bytes has_ended) ((rules list_keeping).step y bytes has_ended))
    (λ r n ps qs stand. answer_alike bytes has_ended (answer_in r bytes) r n ps qs stand) p q like

tells_alike : DoAlike Like (rules ring_keeping) (rules list_keeping)
tells_alike = record {
  step = step_alike;
  overrun = λ p q overrun like. ap (λ (n : ℕ). bad_line (one_more n) (beyond overrun)) like.lines;
  closing = λ p q like. alike_by (λ x y. told_at_end x ≡ told_at_end y) (λ r n ps qs stand. refl) p q like;
}

closed_alike : DoAlike Like (unclosed (rules ring_keeping)) (unclosed (rules list_keeping))
closed_alike = record { step = step_alike; overrun = tells_alike.overrun; closing = λ p q like. refl }

first_alike : Like (at_first ring_keeping) (at_first list_keeping)
first_alike = record { running = refl; lines = refl; seats = first_stand }

pub soon_same : (bytes : List ℕ) → told_soon limits (rules ring_keeping) (at_first ring_keeping) bytes ≡ negative_soon bytes
soon_same bytes =
    told_alike Like (unclosed (rules ring_keeping)) (unclosed (rules list_keeping)) closed_alike limits limits.lines (at_first ring_keeping) (at_first list_keeping) (answerable limits (lines_of bytes)) first_alike

pub told_same : (bytes : List ℕ) → told_of limits (rules ring_keeping) (at_first ring_keeping) bytes ≡ negative_of bytes
told_same bytes = told_alike Like (rules ring_keeping) (rules list_keeping) tells_alike limits limits.lines (at_first ring_keeping) (at_first list_keeping) (lines_of bytes) first_alike
