-- What holds of a schedule that is written again, line by line.
use Rattle.std.proofs.Common.{◌≡◌, ℕ, ◌≤◌, Bool, true, List, [], ◌∷◌, ◌++◌, length, Option, Some, None, refl, sym, ap, subst, ◌∙◌, append-nil, inl, inr}
use Rattle.std.specs.Prelude.{◌||◌, All, IfSome, is_some, option_map, unwrap_or}
use Rattle.std.specs.Option.{option_and_then}
use Rattle.std.proofs.lemmas.Bool.{cond_both}
use Rattle.std.proofs.lemmas.Grind.{flat_map-append}
use Rattle.std.proofs.lemmas.List.Elements.{All-append, All-cons, All-nil, All-weaker}
use Rattle.xl_base.specs.declared.ids.LedgerId.{LedgerId}
use Rattle.xl_ledger.specs.declared.header.Header.{Header}
use Rattle.xl_lines.specs.Lines.{without_return}
use Rattle.xl_lines.specs.Rules.{Step, goes_on, refuses as stops, finds}
use Rattle.xl_lines.proofs.Newlines.{IsOneLine}
use Rattle.xl_lists.specs.Lists.{TrustedList, IsValid}
use Rattle.xl_nunl.specs.Lists.{IsNegative, list_without}
use Rattle.xl_nunl.specs.Deciding.{hears_little, joined_of, left_of, negative_after}
use Rattle.xl_sched.specs.declared.event.Event.{Event}
use Rattle.xl_sched.specs.declared.event.What.{What}
use Rattle.xl_sched.specs.declared.event.What.TheVariants as what
use Rattle.xl_sched.specs.declared.line.Line.{Line}
use Rattle.xl_sched.specs.declared.line.Line.TheVariants as line
use Rattle.xl_sched.specs.declared.named.Named.{Named}
use Rattle.xl_sched.specs.Answers.{LineAnswer, passes, gives, refuses}
use Rattle.xl_sched.specs.Names.{is_name}
use Rattle.xl_sched.specs.Reading.{Reading, after}
use Rattle.xl_spelling.specs.Spellings.{list_line, spelling}
use Rattle.xl_spelling.proofs.Respelling.{list_line-read}
use Rattle.xl_spelling.proofs.Returns.{IsTaken, taken_alike}
use Rattle.xl_spelling.proofs.Visible.{AreSpelled}
use Rattle.xl_world.specs.declared.outcome.Outcome.{Outcome}
use Rattle.xl_world.specs.declared.outcome.Outcome.TheVariants as outcome
use Rattle.xl_world.specs.declared.place.Place.{Place}
use Rattle.xl_world.specs.declared.plan.InForce.{InForce}
use Rattle.xl_world.specs.Schedule.{IsPlausible, outcomes}
use Rattle.xl_world.specs.Starts.{IsRun, start}
use Rattle.xl_world.specs.World.{World, place_at}
use Rattle.xl_world.proofs.Reporters.{IsMember, placed_member}
use Rattle.xl_running.specs.Running.{Running, answer_in, declares, knows, world_of}
use Rattle.xl_running.proofs.Declaring.{AnswerDeclares, Declares}
use Rattle.xl_running.proofs.Naming.{AnswerNames, AreNames, StandsForOne}
use Rattle.xl_running.proofs.Sounding.{IsSound, declares_sound, happens_sound, knows_sound}
use Rattle.xl_negative.specs.Hearing.{heard_at}
use Rattle.xl_negative.specs.Laws.{ByList, IsInForce, IsLawful, full_at, read_on, runs, texts}
use Rattle.xl_negative.specs.Listing.{list_keeping}
use Rattle.xl_negative.specs.Seats.{after_what, hears, members_of, seat_at, with_leaving_out, with_listing}
use Rattle.xl_negative.specs.Writing.{Change, step_adding, after_answer, after_line, after_outcome, after_outcomes, and_then, change_at, change_by, change_of, change_to, copied, with_line_counted, flag_in, goes_over, after_event, is_flag, ledgers_at, ledgers_in, takes, with_running, as_line}
use Rattle.xl_negative.proofs.Lawful.{after_both, change_lawful}
use Rattle.xl_negative.proofs.LawfulSeats.{AreLawful, ListSeat, hears_lawful, leaving_full, leaving_lawful, listed_lawful, listing_full, seat_lawful, what_lawful}
use Rattle.xl_negative.proofs.OneLine.{one_copied, one_plain}
use Rattle.xl_negative.proofs.Setting.{IfDeclared, IfListed, OfInForce, declared_lists, event_lists}

-- WHAT IS WRITTEN RUNS

-- a text is lines without newlines that a reader doesn't refuse, and that lead from a schedule to another
pub record Ran (before : Running) (bytes : List ℕ) (after : Running) : Type 0 where
  pub lines : List (List ℕ)
  pub one : All IsOneLine lines
  pub text : bytes ≡ texts lines
  pub leads : runs before lines ≡ Some after

runs_both : (r : Running) (a b : List (List ℕ)) → runs r (a ++ b) ≡ option_and_then (λ next. runs next b) (runs r a)
runs_both r [] b = refl
runs_both r (bytes ∷ a) b = by_answer (read_on r (answer_in r bytes)) (λ next. runs_both next a b)
  where
    by_answer : (o : Option Running) → ((next : Running) → runs next (a ++ b) ≡ option_and_then (λ further. runs further b) (runs next a)) →
        option_and_then (λ next. runs next (a ++ b)) o ≡ option_and_then (λ further. runs further b) (option_and_then (λ next. runs next a) o)
    by_answer None still = refl
    by_answer (Some next) still = still next

pub ran_then : {r mid after : Running} (text more : List ℕ) → Ran r text mid → Ran mid more after → Ran r (text ++ more) after
ran_then {r = r} text more x y = record {
  lines = x.lines ++ y.lines;
  one = All-append IsOneLine x.lines y.lines x.one y.one;
  text = ap (λ xs. xs ++ more) x.text ∙ ap (λ xs. texts x.lines ++ xs) y.text ∙ sym (flat_map-append as_line x.lines y.lines);
  leads = runs_both r x.lines y.lines ∙ ap (option_and_then (λ next. runs next y.lines)) x.leads ∙ y.leads;
}

pub ran_nothing : (r : Running) → Ran r [] r
ran_nothing r = record { lines = []; one = All-nil IsOneLine; text = refl; leads = refl }

ran_line : (r after : Running) (bytes : List ℕ) → IsOneLine bytes → read_on r (answer_in r bytes) ≡ Some after → Ran r (as_line bytes) after
ran_line r after bytes one reads = record {
  lines = bytes ∷ [];
  one = All-cons IsOneLine bytes [] one (All-nil IsOneLine);
  text = sym (append-nil (as_line bytes));
  leads = ap (option_and_then (λ next. runs next [])) reads;
}

-- a line of the input is read as it was, also if a return at the end of the input is left out
ran_copied : (r : Running) (bytes : List ℕ) (ended : Bool) (a : LineAnswer) → IsOneLine bytes → AreNames r.reading.names → answer_in r bytes ≡ a → IsTaken a → (after : Running) → read_on r a ≡ Some after →
    Ran r (as_line (copied bytes ended)) after
ran_copied r bytes ended a one names is taken after leads =
    let spelled : AreSpelled r.reading.names = All-weaker (StandsForOne r.reading.names) (λ n. is_name n.name ≡ true) (λ n stands. stands.spelled) r.reading.names names in
    let same : answer_in r (copied bytes ended) ≡ a =
    cond_both ended bytes (without_return bytes) (λ (xs : List ℕ). answer_in r xs ≡ a) (λ _. is) (λ _. taken_alike r.reading (length (world_of r).sent) bytes spelled a is taken) in
    ran_line r after (copied bytes ended) (one_copied bytes ended one) (ap (read_on r) same ∙ leads)

-- what a line declares leaves what the reader knows
declares_reading : (r : Running) (l : Line) → (declares r l).reading ≡ r.reading
declares_reading r (line.Limit limit) = refl
declares_reading r other = refl

-- A CHANGE

-- the world is a run, each seat lawful, and each name spelled as names are
pub record IsGood (s : ByList) : Type 0 where
  pub sound : IsSound s.running
  pub seats : AreLawful s.seats
  pub names : AreNames s.running.reading.names

-- a change of a member with a full list
record IsChange (s : ByList) (k : ℕ) (c : Change) : Type 0 where
  pub member : IsMember k
  pub full : TrustedList
  pub has : full_at s k ≡ Some full
  pub valid : IsValid full
  pub lawful : IsLawful full.members c
  pub makes : c.list ≡ list_without full.members c.negative

none_known : (seq : ℕ) (id : LedgerId) (f : ℕ) → flag_in [] seq id ≡ Some f → ⊥
none_known seq id f known = cc

-- a node that knows a ledger is a member
module _ (r : Running) (sound : IsSound r) (k seq : ℕ) (id : LedgerId) (f : ℕ) where
  by_place : (w : World) → IsRun w → (o : Option Place) → place_at k w.places ≡ o → flag_in (ledgers_in (option_map (λ p. p.core) o)) seq id ≡ Some f → IsMember k
  by_place w is_run None at known = absurd (none_known seq id f known)
  by_place w is_run (Some p) at known = placed_member w is_run k p at

  by_world : (o : Option World) → r.world ≡ o → flag_in (ledgers_at o k) seq id ≡ Some f → IsMember k
  by_world None at known = absurd (none_known seq id f known)
  by_world (Some w) at known =
      by_place w (subst (λ (o : Option World). IsRun (unwrap_or o (start r.shared r.liars r.plan))) at sound.is_run) (place_at k w.places) refl known

module _ (s : ByList) (good : IsGood s) (k : ℕ) where
  change_is : IsMember k → (full : TrustedList) → full_at s k ≡ Some full → (scores : List ℕ) → IfSome (change_of full.members (seat_at list_keeping s.seats k).negative scores k) (IsChange s k)
  change_is member full has scores =
      let negative : List ℕ = (seat_at list_keeping s.seats k).negative in
      let there = seat_lawful s.seats good.seats k in
      let valid : IsValid full = subst (λ (o : Option TrustedList). IfSome o IsValid) has there.valid in
      let is : IsNegative full.members negative = subst (λ (o : Option TrustedList). IsNegative (members_of o) negative) has there.negative in
      let left : Option ℕ = left_of full.members negative scores k in
      let joined : Option ℕ = joined_of full.members negative scores k in
      let then : List ℕ = negative_after negative left joined in
      cond_both (is_some left || is_some joined) (Some (change_to full.members then)) None (λ c. IfSome c (IsChange s k))
      (λ _. record {
        member = member;
        full = full;
        has = has;
        valid = valid;
        lawful = change_lawful full then valid (after_both full.members negative scores k is (hears_little full.members scores k));
        makes = refl;
      })
      (λ _. tt)

  by_full : (ledgers : List Header) (flag : Option ℕ) → (((f : ℕ) → flag ≡ Some f → IsMember k)) → (o : Option TrustedList) → full_at s k ≡ o →
      IfSome (change_by list_keeping (seat_at list_keeping s.seats k) k ledgers flag o) (IsChange s k)
  by_full ledgers None member o has = tt
  by_full ledgers (Some f) member None has = tt
  by_full ledgers (Some f) member (Some full) has = change_is (member f refl) full has (list_keeping.scores ledgers (seat_at list_keeping s.seats k).heard f)

  -- what a node changes at a report is a change
  changes : (seq : ℕ) (id : LedgerId) → IfSome (change_at list_keeping (seat_at list_keeping s.seats k) k (ledgers_at s.running.world k) seq id) (IsChange s k)
  changes seq id =
      let ledgers : List Header = ledgers_at s.running.world k in
      cond_both (is_flag seq) (change_by list_keeping (seat_at list_keeping s.seats k) k ledgers (flag_in ledgers seq id) (full_at s k)) None (λ c. IfSome c (IsChange s k))
      (λ _. by_full ledgers (flag_in ledgers seq id) (λ f known. by_world s.running good.sound k seq id f s.running.world refl known) (full_at s k) refl)
      (λ _. tt)

-- A STEP

-- what holds of the text and the state that a step leads to
abbrev pub AfterStep : (List ℕ → ByList → Type 0) → Step ByList → Type 0
AfterStep P (goes_on text s) = P text s
AfterStep P (stops text) = Unit {0}
AfterStep P (finds text) = Unit {0}

-- a list that comes into force at a number is this full list of it, or leaves out some of it
abbrev pub IsOf : ℕ → TrustedList → ℕ → TrustedList → Type 0
IsOf i full k list = k ≡ i → IsValid full × IsInForce full list

-- there is no other full list
abbrev pub HasOnly : TrustedList → Option TrustedList → Type 0
HasOnly full o = IfSome o (λ list. list ≡ full)

-- since the schedule that ran before, and since these lists were in force, where the number has this full list
pub record Holds (i : ℕ) (only : TrustedList) (o : Option TrustedList) (old : List InForce) (before : Running) (text : List ℕ) (s : ByList) : Type 0 where
  pub ran : Ran before text s.running
  pub good : IsGood s
  pub full : full_at s i ≡ o
  pub lists : HasOnly only o → All (OfInForce (IsOf i only)) old → All (OfInForce (IsOf i only)) (world_of s.running).lists

module _ (i : ℕ) (full : TrustedList) (o : Option TrustedList) (lists : List InForce) (before : Running) where
  forced : (s : ByList) (k : ℕ) (c : Change) → IsChange s k c → full_at s i ≡ o → HasOnly full o → IsOf i full k c.list
  forced s k c change has only same =
      let there : o ≡ Some change.full = sym has ∙ ap (full_at s) (sym same) ∙ change.has in
      let its : change.full ≡ full = subst (HasOnly full) there only in (
        subst IsValid its change.valid,
        inr (
          c.negative,
          subst (λ (f : TrustedList). IsNegative f.members c.negative) its change.lawful.negative,
          change.makes ∙ ap (λ (f : TrustedList). list_without f.members c.negative) its,
        ),
      )

  over_holds : (s : ByList) (text : List ℕ) (k : ℕ) (o' : Option Change) → Holds i full o lists before text s → IfSome o' (IsChange s k) → AfterStep (Holds i full o lists before) (goes_over list_keeping s text k o')
  over_holds s text k None hold change = hold
  over_holds s text k (Some c) hold change =
      let r : Running = s.running in
      let next : ByList = record s { seats = with_leaving_out list_keeping s.seats k c.negative } in
      let l : Line = list_line r.reading k c.list in
      let e : Event = record { at = r.reading.now; what = what.List k c.list } in
      let known : Reading = after r.reading l in
      let bytes : List ℕ = spelling l in
      let read = list_line-read r.reading (length (world_of r).sent) k c.list change.member.least change.member.greatest change.lawful.valid in
      elim read.answer [
        | inl said ↦
            subst (λ (a : LineAnswer). AfterStep (Holds i full o lists before) (step_adding next text bytes a)) (sym said)
            (record {
              ran = ran_then text (as_line bytes) hold.ran (ran_line r _ bytes (one_plain bytes read.plain) (ap (read_on r) said));
              good = record {
                sound = happens_sound (knows r known) e change.lawful.valid (knows_sound r known hold.good.sound);
                seats = leaving_lawful s.seats hold.good.seats k c.negative (subst (λ (f : Option TrustedList). IsNegative (members_of f) c.negative) (sym change.has) change.lawful.negative);
                names = hold.good.names;
              };
              full = leaving_full s.seats k i c.negative ∙ hold.full;
              lists = λ only has. event_lists (IsOf i full) (world_of r) e (forced s k c change hold.full only) (hold.lists only has);
            })
        | inr (why, refused) ↦ subst (λ (a : LineAnswer). AfterStep (Holds i full o lists before) (step_adding next text bytes a)) (sym refused) tt
      ]

  outcome_holds : (s : ByList) (text : List ℕ) (x : Outcome) → Holds i full o lists before text s → AfterStep (Holds i full o lists before) (after_outcome list_keeping s text x)
  outcome_holds s text (outcome.Full k seq id) hold =
      over_holds s text k (change_at list_keeping (seat_at list_keeping s.seats k) k (ledgers_at s.running.world k) seq id) hold (changes s hold.good k seq id)
  outcome_holds s text other hold = hold

  then_holds : (further : ByList → List ℕ → Step ByList) → ((s : ByList) (text : List ℕ) → Holds i full o lists before text s → AfterStep (Holds i full o lists before) (further s text)) →
      (step : Step ByList) → AfterStep (Holds i full o lists before) step → AfterStep (Holds i full o lists before) (and_then further step)
  unfolding and_then
  then_holds further still (goes_on text s) hold = still s text hold
  then_holds further still (stops text) hold = tt
  then_holds further still (finds text) hold = tt

  outcomes_hold : (os : List Outcome) (s : ByList) (text : List ℕ) → Holds i full o lists before text s → AfterStep (Holds i full o lists before) (after_outcomes list_keeping s text os)
  outcomes_hold [] s text hold = hold
  outcomes_hold (x ∷ os) s text hold =
      then_holds (λ next more. after_outcomes list_keeping next more os) (λ next more holds. outcomes_hold os next more holds) (after_outcome list_keeping s text x) (outcome_holds s text x hold)

-- A LINE OF THE INPUT

-- since the line, if the number then has no other full list
pub record Held (i : ℕ) (only : TrustedList) (old : List InForce) (before : Running) (text : List ℕ) (s : ByList) : Type 0 where
  pub ran : Ran before text s.running
  pub good : IsGood s
  pub lists : HasOnly only (full_at s i) → All (OfInForce (IsOf i only)) old → All (OfInForce (IsOf i only)) (world_of s.running).lists

held : (i : ℕ) (full : TrustedList) (o : Option TrustedList) (lists : List InForce) (before : Running) (step : Step ByList) → AfterStep (Holds i full o lists before) step → AfterStep (Held i full lists before) step
held i full o lists before (goes_on text s) hold = record { ran = hold.ran; good = hold.good; lists = λ only has. hold.lists (subst (HasOnly full) hold.full only) has }
held i full o lists before (stops text) hold = tt
held i full o lists before (finds text) hold = tt

module _ (i : ℕ) (most : i ≤ 64) (full : TrustedList) where
  -- who is given a list has it then
  given : (seats : List ListSeat) → AreLawful seats → (k : ℕ) (list : TrustedList) → IsValid list → HasOnly full (seat_at list_keeping (with_listing list_keeping seats k list) i).full → IsOf i full k list
  given seats are k list valid only same =
      let there : (seat_at list_keeping (with_listing list_keeping seats k list) i).full ≡ Some list =
      subst (λ (m : ℕ). (seat_at list_keeping (with_listing list_keeping seats m list) i).full ≡ Some list) (sym same) (listing_full seats i list are.long most) in
      let its : list ≡ full = subst (HasOnly full) there only in
      (subst IsValid its valid, inl its)

  given_by : (seats : List ListSeat) → AreLawful seats → (w : What) → IsPlausible w → HasOnly full (seat_at list_keeping (after_what list_keeping seats w) i).full → IfListed (IsOf i full) w
  given_by seats are (what.List node list) plausible only = given seats are node list plausible only
  given_by seats are other plausible only = tt

  -- a declaration that leaves the seats
  declares_holds : (before : Running) (names : List Named) (s : ByList) (text : List ℕ) (l : Line) → IsGood s → Declares names l → IfDeclared (IsOf i full) l → Ran before text (declares s.running l) →
      Held i full (world_of s.running).lists before text (with_running s (declares s.running l))
  declares_holds before names s text l good declares_it of ran = record {
    ran = ran;
    good = record {
      sound = declares_sound s.running names l declares_it good.sound;
      seats = good.seats;
      names = subst (λ (reading : Reading). AreNames reading.names) (sym (declares_reading s.running l)) good.names;
    };
    lists = λ only has. declared_lists (IsOf i full) s.running l of has;
  }

  line_holds : (before : Running) (names : List Named) (s : ByList) (text : List ℕ) (l : Line) → IsGood s → Declares names l → Ran before text (takes s.running l) →
      AfterStep (Held i full (world_of s.running).lists before) (after_line list_keeping s text l)
  line_holds before names s text (line.Node me list validating) good is ran = record {
    ran = ran;
    good = record { sound = declares_sound s.running names (line.Node me list validating) is good.sound; seats = listed_lawful s.seats good.seats me list is.list; names = good.names };
    lists = λ only has. declared_lists (IsOf i full) s.running (line.Node me list validating) (given s.seats good.seats me list is.list only) has;
  }
  line_holds before names s text (line.Event e) good is ran =
      let heard : List ListSeat = hears list_keeping s.seats (heard_at (world_of s.running) e) in
      let are : AreLawful heard = hears_lawful (heard_at (world_of s.running) e) s.seats good.seats in
      let next : ByList = after_event list_keeping s e in
      let lists : List InForce = (world_of s.running).lists in
      held i full (full_at next i) lists before (after_outcomes list_keeping next text (outcomes (world_of s.running) e))
      (outcomes_hold i full (full_at next i) lists before (outcomes (world_of s.running) e) next text
      (record {
        ran = ran;
        good = record { sound = happens_sound s.running e is good.sound; seats = what_lawful heard are e.what is; names = good.names };
        full = refl;
        lists = λ only has. event_lists (IsOf i full) (world_of s.running) e (given_by heard are e.what is only) has;
      }))
  line_holds before names s text other good is ran = declares_holds before names s text other good is tt ran

  pub answer_holds : (s : ByList) (bytes : List ℕ) (ended : Bool) (a : LineAnswer) → IsOneLine bytes → IsGood s → AnswerDeclares s.running.reading.names a → AnswerNames a → answer_in s.running bytes ≡ a →
      AfterStep (Held i full (world_of s.running).lists s.running) (after_answer list_keeping s bytes ended a)
  answer_holds s bytes ended (passes reading) one good declares_it names is = record {
    ran = ran_copied s.running bytes ended (passes reading) one good.names is tt _ refl;
    good = record { sound = knows_sound s.running reading good.sound; seats = good.seats; names = names };
    lists = λ only has. has;
  }
  answer_holds s bytes ended (gives l reading) one good declares_it names is =
      line_holds s.running s.running.reading.names (with_line_counted s reading) (as_line (copied bytes ended)) l (record { sound = knows_sound s.running reading good.sound; seats = good.seats; names = names }) declares_it
      (ran_copied s.running bytes ended (gives l reading) one good.names is tt _ refl)
  answer_holds s bytes ended (refuses why) one good declares_it names is = tt
