-- What happens at a core, by the one call, is what the event's own call leaves.
use Rattle.std.proofs.Common.{◌≡◌, ℕ, Bool, List, refl, ap, sym, ◌∙◌, subst, Option, Some, None, Result, Ok, Err}
use Rattle.xl_base.specs.Faults.{Rose}
use Rattle.xl_io.specs.Keepers.{Held}
use Rattle.xl_core.specs.declared.core_answer.CoreAnswer.{CoreAnswer}
use Rattle.xl_core.specs.declared.deed.Deed.{Deed}
use Rattle.xl_core.specs.declared.event.CoreEvent.{CoreEvent}
use Rattle.xl_core.specs.declared.refusal.Refusal.{Refusal}
use Rattle.xl_core.specs.declared.refusal.Refusal.TheVariants as why
use Rattle.xl_core.specs.declared.timer_answer.TimerAnswer.{TimerAnswer}
use Rattle.xl_core.specs.declared.timer_answer.TimerAnswer.TheVariants as timer_answer
use Rattle.xl_core.specs.declared.timer_answer.Issued.TheVariants as issued
use Rattle.xl_core.specs.Answers.{Answer}
use Rattle.xl_core.specs.Core.{Core, CoreReply, core_happens, core_asks}
use Rattle.xl_core.specs.Deeds.{CountsFailure, Happens, answer_of, event_for, save_told}
use Rattle.xl_core.specs.Keeping.{CountsFault, IsAsked}
use Rattle.xl_core.specs.Node.{Save, is_kept}
use Rattle.xl_core.specs.Issuing.Save.{Kept, Failed}
use Rattle.xl_core.specs.Replies.{Answers, done_answer, save_in, save_of}
use Rattle.xl_core.specs.Stops.{IsCovered, StaysCovered}
use Rattle.xl_core.specs.TimerParts.{CountsBeatFault, save_at}
use Rattle.xl_core.proofs.Concluding.{unasked}
use Rattle.xl_core.proofs.Unasked.{unasked_alike}

-- THE SAVE

pub same_save_told : {X : Type 0} (r : Result X Refusal) → save_told (done_answer r) ≡ save_in r
same_save_told (Ok done) = refl
same_save_told (Err w) = refl

-- the refusal tells the count of faults
pub failed_why : (w : Refusal) (count : ℕ) → save_of w ≡ Failed count → w ≡ why.KeepFault count
failed_why (why.KeepFault n) count is = cc
failed_why _ count is = cc

-- a failure that is told was counted
abbrev pub IsRisen : Save → ℕ → ℕ → Type 0
IsRisen save old new = (count : ℕ) → save ≡ Failed count → Rose old new × (count ≡ new)

pub issue_risen : {X : Type 0} (r : Result X Refusal) (old new : ℕ) → CountsFault r old new → IsRisen (save_in r) old new
issue_risen (Ok done) old new counts = λ count is. cc
issue_risen (Err w) old new counts = λ count is. counts count (ap (λ (v : Refusal). Err v) (failed_why w count is))

pub beat_risen : (beat : TimerAnswer) (old new : ℕ) → CountsBeatFault beat old new → IsRisen (save_at beat) old new
beat_risen (timer_answer.Built seq id moved_on (issued.Refused w)) old new counts =
    λ count is. counts seq id moved_on count (ap (λ (v : Refusal). timer_answer.Built seq id moved_on (issued.Refused v)) (failed_why w count is))
beat_risen other old new counts = λ count is. cc

counts_if : (asked : Option ℕ) (save : Save) (old new : ℕ) → IsRisen save old new → CountsFailure asked save old new
counts_if None save old new risen = tt
counts_if (Some seq) save old new risen = risen

-- WHAT HAPPENS

stays_alike : (o : Option Held) (before after : Core) → ((held : Held) → IsCovered held before → IsCovered held after) → StaysCovered o o before after
stays_alike o before after stays = λ h h' was is covered. let same : h ≡ h' = cc in subst (λ (x : Held). IsCovered x after) same (stays h covered)

module _ {K : Type 0} (held_by : K → Option Held) (saves_of : K → Option (List ℕ)) (faults_of : K → ℕ) (gives : K → ℕ → Bool → K → Type 0) where
  -- by a call that is answered so
  pub by_call : (before after : Core) (event : CoreEvent) (told : CoreAnswer) (old new : K) (a : Answer) (save : Save) → answer_of told ≡ a → save_told a ≡ save →
      Answers (core_happens before event save) after a → IsAsked held_by saves_of faults_of gives (core_asks before event) (is_kept save) old new → IsRisen save (faults_of old) (faults_of new) →
      StaysCovered (held_by old) (held_by new) before after → Happens held_by saves_of faults_of gives before event after told old new
  by_call before after event told old new a save is saved step asks risen stop =
      let same : save_told (answer_of told) ≡ save = ap save_told is ∙ saved in record {
        step = subst (λ (s : Save). Answers (core_happens before event s) after (answer_of told)) (sym same) (subst (λ (x : Answer). Answers (core_happens before event save) after x) (sym is) step);
        asks = subst (λ (s : Save). IsAsked held_by saves_of faults_of gives (core_asks before event) (is_kept s) old new) (sym same) asks;
        fault = subst (λ (s : Save). CountsFailure (core_asks before event) s (faults_of old) (faults_of new)) (sym same) (counts_if (core_asks before event) save (faults_of old) (faults_of new) risen);
        stop = stop;
      }

  -- by a call that asks no save
  pub by_unasked : (before after : Core) (event : CoreEvent) (told : CoreAnswer) (keeper : K) (a : Answer) → core_asks before event ≡ None → answer_of told ≡ a → Answers (core_happens before event Kept) after a →
      ((held : Held) → IsCovered held before → IsCovered held after) → Happens held_by saves_of faults_of gives before event after told keeper keeper
  by_unasked before after event told keeper a none is step stays =
      let save : Save = save_told (answer_of told) in
      let alike : Answers (core_happens before event Kept) after (answer_of told) = subst (λ (x : Answer). Answers (core_happens before event Kept) after x) (sym is) step in record {
        step = subst (λ (r : CoreReply). Answers r after (answer_of told)) (unasked_alike before event Kept save none) alike;
        asks = subst (λ (o : Option ℕ). IsAsked held_by saves_of faults_of gives o (is_kept save) keeper keeper) (sym none) (unasked held_by saves_of faults_of gives (is_kept save) keeper);
        fault = subst (λ (o : Option ℕ). CountsFailure o save (faults_of keeper) (faults_of keeper)) (sym none) tt;
        stop = stays_alike (held_by keeper) before after stays;
      }

  -- of a deed, which is this one
  pub of_deed : (before after : Core) (d is_d : Deed) (told : CoreAnswer) (old new : K) → d ≡ is_d → Happens held_by saves_of faults_of gives before (event_for before is_d) after told old new →
      Happens held_by saves_of faults_of gives before (event_for before d) after told old new
  of_deed before after d is_d told old new is done = subst (λ (x : Deed). Happens held_by saves_of faults_of gives before (event_for before x) after told old new) (sym is) done
