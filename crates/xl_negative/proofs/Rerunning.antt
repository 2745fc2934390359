-- What is written, read again; and the lists and the reports of what ran.
use Rattle.std.proofs.Common.{◌≡◌, ℕ, suc, ◌-◌, ◌≤◌, List, [], ◌∷◌, length, take, Some, refl, ap, subst, ◌∙◌, arith}
use Rattle.std.specs.Prelude.{◌==◌, nat_lt, All, IfSome, slice_index_or}
use Rattle.std.proofs.lemmas.Bool.{cond_both}
use Rattle.std.proofs.lemmas.List.Elements.{All-contains, All-head, All-nil, All-tail, All-weaker}
use Rattle.xl_lines.specs.declared.limits.Overrun.TheVariants.{LongLine, ManyLines}
use Rattle.xl_lines.specs.declared.machine.Verdict.TheVariants.{Good, Refused}
use Rattle.xl_lines.specs.Lines.{Line as InputLine, lines_of, content}
use Rattle.xl_lines.specs.Rules.{Step, goes_on, refuses as stops, finds, closes}
use Rattle.xl_lines.specs.Told.{step_at, step_within, told_by, told_from}
use Rattle.xl_lines.proofs.Newlines.{IsOneLine}
use Rattle.xl_lists.specs.declared.report.Report.{Report as Reported}
use Rattle.xl_lists.specs.Lists.{TrustedList, IsValid}
use Rattle.xl_sched.specs.declared.refusal.SchedRefusal.TheVariants.{Header}
use Rattle.xl_world.specs.Headline.{EnoughAt}
use Rattle.xl_world.specs.World.{World}
use Rattle.xl_world.proofs.Listing.{at_node}
use Rattle.xl_world.proofs.Lists.{agree_at, world_agrees}
use Rattle.xl_world.proofs.Reporters.{IsMember, IsReporter, world_reporters}
use Rattle.xl_running.specs.Running.{answer_in, limits, world_of}
use Rattle.xl_running.specs.Texts.{bad_line}
use Rattle.xl_running.proofs.Declaring.{reading_declares}
use Rattle.xl_running.proofs.Naming.{reading_names, root_names}
use Rattle.xl_running.proofs.Sounding.{first_sound}
use Rattle.xl_negative.specs.Laws.{ByList, HasOneList, IsInForce, ListsAreInForce, ReportsAgree, WrittenRuns, full_at, led_by, ran_by, ran_from}
use Rattle.xl_negative.specs.Listing.{list_keeping}
use Rattle.xl_negative.specs.Writing.{at_first, rules}
use Rattle.xl_negative.proofs.Holding.{AfterStep, HasOnly, Held, IsGood, IsOf, Ran, answer_holds, ran_nothing, ran_then}
use Rattle.xl_negative.proofs.InForce.{lists_enough}
use Rattle.xl_negative.proofs.LawfulSeats.{first_lawful}
use Rattle.xl_negative.proofs.OneLine.{all_one, cut_again, one_content}
use Rattle.xl_negative.proofs.Setting.{OfInForce}

abbrev IsOne : InputLine → Type 0
IsOne l = IsOneLine l.bytes

first_good : IsGood (at_first list_keeping)
first_good = record { sound = first_sound; seats = first_lawful; names = root_names }

step_holds : (i : ℕ) → i ≤ 64 → (full : TrustedList) (left : ℕ) (s : ByList) (l : InputLine) → IsOne l → IsGood s →
    AfterStep (Held i full (world_of s.running).lists s.running) (step_at limits (rules list_keeping) left s l)
step_holds i most full left s l one good =
    let bytes : List ℕ = content limits.returns l in
    let After : Step ByList → Type 0 = AfterStep (Held i full (world_of s.running).lists s.running) in
    cond_both (nat_lt limits.bytes (length l.bytes)) (stops ((rules list_keeping).overrun s LongLine)) (step_within (rules list_keeping) left s bytes l.ended) After
    (λ _. tt)
    (λ _. cond_both (nat_lt 0 left) ((rules list_keeping).step s bytes l.ended) (stops ((rules list_keeping).overrun s ManyLines)) After
    (λ _. answer_holds i most full s bytes l.ended (answer_in s.running bytes) (one_content l one) good (reading_declares s.running.reading (length (world_of s.running).sent) bytes)
    (reading_names s.running.reading (length (world_of s.running).sent) bytes good.names) refl) (λ _. tt))

-- ---- what is written

-- of no member
abbrev none : TrustedList
none = record { members = []; quorum = 0 }

abbrev Leads : ℕ → ByList → List InputLine → Type 0
Leads left s ls = (after : ByList) × (ran_from left s ls ≡ Some after) × Ran s.running (told_from limits (rules list_keeping) left s ls).text after.running

told_leads : (left : ℕ) (s : ByList) (ls : List InputLine) → All IsOne ls → IsGood s → (told_from limits (rules list_keeping) left s ls).verdict ≡ Good → Leads left s ls
unfolding told_by led_by
told_leads left s [] one is good =
    cond_both (s.lines == 0) (closes (bad_line 1 (Header [])) Refused) (closes [] Good) (λ told. told.verdict ≡ Good → (after : ByList) × (Some s ≡ Some after) × Ran s.running told.text after.running)
    (λ _ never. absurd cc) (λ _ _. (s, refl, ran_nothing s.running)) good
told_leads left s (l ∷ ls) one is good =
    by_step (step_at limits (rules list_keeping) left s l) (λ next its well. told_leads (left - 1) next ls (All-tail IsOne l ls one) its well)
    (step_holds 0 (omega arith) none left s l (All-head IsOne l ls one) is) good
  where
    by_step : (step : Step ByList) → ((next : ByList) → IsGood next → (told_from limits (rules list_keeping) (left - 1) next ls).verdict ≡ Good → Leads (left - 1) next ls) → AfterStep (Held 0 none (world_of s.running).lists s.running) step → (told_by (λ next. told_from limits (rules list_keeping) (left - 1) next ls) step).verdict ≡ Good
        → (after : ByList) × (led_by (λ next. ran_from (left - 1) next ls) step ≡ Some after) × Ran s.running (told_by (λ next. told_from limits (rules list_keeping) (left - 1) next ls) step).text after.running
    by_step (goes_on text next) still holds well =
        let rest = still next holds.good well in
        (rest.0, rest.1, ran_then text (told_from limits (rules list_keeping) (left - 1) next ls).text holds.ran rest.2)
    by_step (stops text) still holds well = absurd cc
    by_step (finds text) still holds well = absurd cc

pub law_of_written_runs : WrittenRuns
law_of_written_runs bytes good =
    let leads = told_leads limits.lines (at_first list_keeping) (lines_of bytes) (all_one bytes) first_good good in
    let ran = leads.2 in
    (leads.0, leads.1, record { lines = ran.lines; text = ran.text; cut = ap lines_of ran.text ∙ cut_again ran.lines ran.one; leads = ran.leads })

-- ---- what ran

abbrev Forced : ℕ → TrustedList → ByList → Type 0
Forced i full s = All (OfInForce (IsOf i full)) (world_of s.running).lists

-- the full list of a number, wherever lines are read up to
abbrev HasOneFrom : ℕ → TrustedList → ℕ → ByList → List InputLine → Type 0
HasOneFrom i full left s ls = (n : ℕ) → IfSome (ran_from left s (take n ls)) (λ t. HasOnly full (full_at t i))

module _ (i : ℕ) (most : i ≤ 64) (full : TrustedList) where
  lists_hold : (left : ℕ) (s : ByList) (ls : List InputLine) → All IsOne ls → IsGood s → Forced i full s → HasOneFrom i full left s ls → (after : ByList) → ran_from left s ls ≡ Some after → Forced i full after
  unfolding led_by
  lists_hold left s [] one is forced only after ends =
      let same : s ≡ after = cc in
      subst (Forced i full) same forced
  lists_hold left s (l ∷ ls) one is forced only after ends =
      by_step (step_at limits (rules list_keeping) left s l)
      (λ next its forced_then still ends_so. lists_hold (left - 1) next ls (All-tail IsOne l ls one) its forced_then still after ends_so)
      (step_holds i most full left s l (All-head IsOne l ls one) is) (λ n. only (suc n)) ends
    where
      by_step : (step : Step ByList) → ((next : ByList) → IsGood next → Forced i full next → HasOneFrom i full (left - 1) next ls → ran_from (left - 1) next ls ≡ Some after → Forced i full after) → AfterStep (Held i full (world_of s.running).lists s.running) step → ((n : ℕ) → IfSome (led_by (λ next. ran_from (left - 1) next (take n ls)) step) (λ t. HasOnly full (full_at t i)))
          → led_by (λ next. ran_from (left - 1) next ls) step ≡ Some after → Forced i full after
      by_step (goes_on text next) further holds still ends_so = further next holds.good (holds.lists (still 0) forced) still ends_so
      by_step (stops text) further holds still ends_so = absurd cc
      by_step (finds text) further holds still ends_so = absurd cc

good_after : (left : ℕ) (s : ByList) (ls : List InputLine) → All IsOne ls → IsGood s → (after : ByList) → ran_from left s ls ≡ Some after → IsGood after
unfolding led_by
good_after left s [] one is after ends =
    let same : s ≡ after = cc in
    subst IsGood same is
good_after left s (l ∷ ls) one is after ends =
    by_step (step_at limits (rules list_keeping) left s l) (λ next its ends_so. good_after (left - 1) next ls (All-tail IsOne l ls one) its after ends_so)
    (step_holds 0 (omega arith) none left s l (All-head IsOne l ls one) is) ends
  where
    by_step : (step : Step ByList) → ((next : ByList) → IsGood next → ran_from (left - 1) next ls ≡ Some after → IsGood after) → AfterStep (Held 0 none (world_of s.running).lists s.running) step → led_by (λ next. ran_from (left - 1) next ls) step ≡ Some after → IsGood after
    by_step (goes_on text next) further holds ends_so = further next holds.good ends_so
    by_step (stops text) further holds ends_so = absurd cc
    by_step (finds text) further holds ends_so = absurd cc

forced_after : (bytes : List ℕ) (full : TrustedList) (i : ℕ) (after : ByList) → ran_by bytes ≡ Some after → i ≤ 64 → HasOneList bytes i full → Forced i full after
forced_after bytes full i after ends most only =
    lists_hold i most full limits.lines (at_first list_keeping) (lines_of bytes) (all_one bytes) first_good (All-nil (OfInForce (IsOf i full))) only after ends

pub lists_in_force : ListsAreInForce
lists_in_force bytes full i after ends least most only =
    All-weaker (OfInForce (IsOf i full)) (λ f. f.node ≡ i → IsInForce full f.list) (λ f of same. (of same).1) (world_of after.running).lists (forced_after bytes full i after ends most only)

-- the list of a report
module _ (bytes : List ℕ) (full : TrustedList) (i : ℕ) (after : ByList) (ends : ran_by bytes ≡ Some after) (only : HasOneList bytes i full) where
  report_list : (r : Reported) → IsReporter (world_of after.running) r → r.node ≡ i → IsValid full × IsInForce full r.list
  report_list r reporter same =
      let member : IsMember i = subst IsMember same reporter.member in
      All-contains (OfInForce (IsOf i full)) (world_of after.running).lists (at_node r.node r.list) (forced_after bytes full i after ends member.greatest only) reporter.listed same

pub reports_agree : ReportsAgree
reports_agree bytes full i j after ends only_i only_j least few none_forged =
    let w : World = world_of after.running in
    let good : IsGood after = good_after limits.lines (at_first list_keeping) (lines_of bytes) (all_one bytes) first_good after ends in
    let enough : EnoughAt w.liars w.reports i j = λ k d k_in l e l_in of_i of_j _.
    let r : Reported = slice_index_or w.reports k d in
    let q : Reported = slice_index_or w.reports l e in
    let a = report_list bytes full i after ends only_i r (world_reporters w good.sound.is_run k d k_in) of_i in
    let b = report_list bytes full j after ends only_j q (world_reporters w good.sound.is_run l e l_in) of_j in
    lists_enough full r.list q.list w.liars a.0 least few a.1 b.1 in
    agree_at w.liars w.reports i j (world_agrees w good.sound.is_run none_forged) enough
