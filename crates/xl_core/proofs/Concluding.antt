-- The core's part of a timer.
use Rattle.std.proofs.Common.{◌≡◌, ℕ, Bool, List, [], ◌∷◌, refl, ap, sym, subst, arith, Option, Some, None}
use Rattle.std.specs.Prelude.{option_map}
use Rattle.xl_base.specs.declared.ids.TxId.{TxId}
use Rattle.xl_io.specs.Keepers.{Held, after_save}
use Rattle.xl_queues.specs.Broadcasts.{pushed_to_all}
use Rattle.xl_queues.specs.Queues.{Backlog}
use Rattle.xl_rounds.specs.declared.heartbeat.Said.{Said}
use Rattle.xl_core.specs.declared.timer_answer.TimerAnswer.{TimerAnswer}
use Rattle.xl_core.specs.declared.timer_answer.TimerAnswer.TheVariants.{Built as BuiltBeat}
use Rattle.xl_core.specs.declared.timer_answer.Issued.TheVariants as issued
use Rattle.xl_core.specs.declared.item.Item.{Item}
use Rattle.xl_core.specs.declared.item.Item.TheVariants.{Tx as TxItem}
use Rattle.xl_core.specs.declared.refusal.Refusal.{Refusal}
use Rattle.xl_core.specs.declared.timer_part.Built.{Built}
use Rattle.xl_core.specs.declared.timer_part.TimerPart.TheVariants as timer_part
use Rattle.xl_core.specs.Answers.{Beats, Done}
use Rattle.xl_core.specs.Building.{said_items}
use Rattle.xl_core.specs.Core.{Core, after_reply}
use Rattle.xl_core.specs.Keeping.{IsAsked}
use Rattle.xl_core.specs.Node.{Node, Reply, Save, TimerOutcome, Submit, Quiet, timer_reply, timer_outcome, asks_of, happens, reply_with, refusing_reply}
use Rattle.xl_core.specs.Issuing.Save.{Kept}
use Rattle.xl_core.specs.Queues.{with_items}
use Rattle.xl_core.specs.Replies.{Answers}
use Rattle.xl_core.specs.Stops.{IsCovered}
use Rattle.xl_core.proofs.Stopping.{submit_covered}
use Rattle.xl_core.specs.TimerParts.{outcome_by, IsQuiet, CountsBeatFault}

-- NOTHING WAS BUILT

pub quiet_step : (core : Core) (m n : Node) (told : TimerAnswer) (said : Option Said) (waiting : List (Backlog Item)) (save : Save) → Quiet n told said ≡ timer_outcome m → waiting ≡ with_items core.waiting (said_items said) →
    Answers (after_reply core (timer_reply (timer_outcome m) save)) (record core { node = n; waiting = waiting }) (Beats told)
quiet_step core m n told said waiting save is pushed =
    subst (λ (t : TimerOutcome). Answers (after_reply core (timer_reply t save)) (record core { node = n; waiting = waiting }) (Beats told)) is
    (record { core = ap (λ (ws : List (Backlog Item)). let c : Core = record core { node = n; waiting = ws } in c) pushed; answer = refl })

same_held : (kept : Bool) (o : Option Held) → o ≡ option_map (λ held. after_save held None kept) o
same_held kept None = refl
same_held kept (Some held) = refl

-- a keeper of which nothing was asked
pub unasked : {K : Type 0} (held_by : K → Option Held) (saves_of : K → Option (List ℕ)) (faults_of : K → ℕ) (gives : K → ℕ → Bool → K → Type 0) (kept : Bool) (keeper : K) →
    IsAsked held_by saves_of faults_of gives None kept keeper keeper
unasked held_by saves_of faults_of gives kept keeper = record { held = same_held kept (held_by keeper); saves = refl; keeper = refl; later = omega arith }

pub quiet_asks : {K : Type 0} (held_by : K → Option Held) (saves_of : K → Option (List ℕ)) (faults_of : K → ℕ) (gives : K → ℕ → Bool → K → Type 0) (kept : Bool) (keeper : K) (m n : Node) (told : TimerAnswer) (said : Option Said) →
    Quiet n told said ≡ timer_outcome m → IsAsked held_by saves_of faults_of gives (asks_of (timer_outcome m)) kept keeper keeper
quiet_asks held_by saves_of faults_of gives kept keeper m n told said is =
    subst (λ (t : TimerOutcome). IsAsked held_by saves_of faults_of gives (asks_of t) kept keeper keeper) is (unasked held_by saves_of faults_of gives kept keeper)

pub quiet_fault : (told : TimerAnswer) (n : ℕ) → IsQuiet told → CountsBeatFault told n n
quiet_fault (BuiltBeat s i m how) n quiet = absurd quiet
quiet_fault other n quiet = λ seq id moved_on count e. cc

-- A LEDGER WAS BUILT

-- so the timer's step
pub built_step : (core : Core) (m n : Node) (b : Built) (told : TimerAnswer) (after : Core) (save : Save) → outcome_by (timer_part.Built b) n ≡ timer_outcome m →
    Answers (after_reply (record core { node = n }) (timer_reply (outcome_by (timer_part.Built b) n) save)) after (Beats told) → Answers (after_reply core (timer_reply (timer_outcome m) save)) after (Beats told)
built_step core m n b told after save is done = subst (λ (t : TimerOutcome). Answers (after_reply core (timer_reply t save)) after (Beats told)) is done

-- A TRANSACTION WAS HANDED IN

pub submitted_covered : (held : Held) (core : Core) (now : ℕ) (tx : TxId) (n : Node) (waiting : List (Backlog Item)) → reply_with n Done (TxItem tx ∷ []) ≡ happens core.node (Submit now tx) Kept →
    waiting ≡ pushed_to_all 64 core.waiting (TxItem tx) → IsCovered held core → IsCovered held (record core { node = n; waiting = waiting })
submitted_covered held core now tx n waiting is pushed was =
    subst (λ (ws : List (Backlog Item)). IsCovered held (record core { node = n; waiting = ws })) (sym pushed)
    (subst (λ (r : Reply). IsCovered held (after_reply core r).core) (sym is) (submit_covered held core now tx Kept was))

pub refused_covered : (held : Held) (core : Core) (now : ℕ) (tx : TxId) (n : Node) (why : Refusal) → refusing_reply n why ≡ happens core.node (Submit now tx) Kept → IsCovered held core → IsCovered held (record core { node = n })
refused_covered held core now tx n why is was = subst (λ (r : Reply). IsCovered held (after_reply core r).core) (sym is) (submit_covered held core now tx Kept was)

pub built_asks : {K : Type 0} (held_by : K → Option Held) (saves_of : K → Option (List ℕ)) (faults_of : K → ℕ) (gives : K → ℕ → Bool → K → Type 0) (kept : Bool) (old new : K) (m n : Node) (b : Built) →
    outcome_by (timer_part.Built b) n ≡ timer_outcome m → IsAsked held_by saves_of faults_of gives (asks_of (outcome_by (timer_part.Built b) n)) kept old new → IsAsked held_by saves_of faults_of gives (asks_of (timer_outcome m)) kept old new
built_asks held_by saves_of faults_of gives kept old new m n b is asked = subst (λ (t : TimerOutcome). IsAsked held_by saves_of faults_of gives (asks_of t) kept old new) is asked
