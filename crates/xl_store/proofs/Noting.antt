-- The outcome that is noted of a call is the one that its event can have there.
use Rattle.std.proofs.Common.{◌≡◌, ℕ, Bool, true, false, [], refl, sym, ap, ◌∙◌, subst, arith, Option, Some, None, Result, Ok, Err}
use Rattle.std.specs.Prelude.{◌==◌, nat_lt, if◌then◌else◌}
use Rattle.std.proofs.lemmas.Bool.{cond_both}
use Rattle.xl_base.specs.Faults.{Rose}
use Rattle.xl_base.specs.declared.ids.LedgerId.{LedgerId}
use Rattle.xl_ledger.specs.declared.header.Header.{Header}
use Rattle.xl_ledger.specs.Headers.{header_id}
use Rattle.xl_rounds.specs.declared.heartbeat.HeartbeatKind.{HeartbeatKind}
use Rattle.xl_rounds.specs.declared.heartbeat.HeartbeatKind.TheVariants as kind
use Rattle.xl_rounds.specs.declared.heartbeat.Said.{Said}
use Rattle.xl_rounds.specs.Rounds.{is_proposing}
use Rattle.xl_rounds.specs.Heartbeats.{HeartbeatReply, heartbeat}
use Rattle.xl_wire.specs.declared.validation.Validation.{Validation}
use Rattle.xl_core.specs.declared.timer_answer.TimerAnswer.{TimerAnswer}
use Rattle.xl_core.specs.declared.timer_answer.TimerAnswer.TheVariants as timer_answer
use Rattle.xl_core.specs.declared.timer_answer.Issued.{Issued}
use Rattle.xl_core.specs.declared.timer_answer.Issued.TheVariants as issued
use Rattle.xl_core.specs.declared.refusal.Refusal.{Refusal}
use Rattle.xl_core.specs.declared.refusal.Refusal.TheVariants as why
use Rattle.xl_core.specs.Answers.{Refused, Beats, Done, refusal_in}
use Rattle.xl_core.specs.Building.{Knowing, knowing_of, how_issued}
use Rattle.xl_core.specs.Node.{Node, Reply, Save, TimerOutcome, Quiet, Ending, reply_with, refusing_reply, issuing_reply, issued_unless_off, own_validation, unless_failed, issued_reply, second_of, asks_for, asks_of, validates, validating_built, timer_reply, timer_outcome, chosen, seen_of, next_header, switch_outcome, built_outcome, kind_outcome, heartbeat_outcome}
use Rattle.xl_core.specs.Issuing.Save.{Kept, Failed}
use Rattle.xl_core.specs.Keeping.{CountsFault}
use Rattle.xl_core.specs.Replies as replies
use Rattle.xl_core.specs.Replies.{done_answer, save_in}
use Rattle.xl_core.specs.TimerParts.{IsQuiet, CountsBeatFault, save_as, save_at}
use Rattle.xl_store.specs.declared.entry.Saved.{Saved}
use Rattle.xl_store.specs.declared.entry.Saved.TheVariants as saved
use Rattle.xl_store.specs.Entries.{save_of, IsOutcome}
use Rattle.xl_store.specs.Outcomes.{failure_in, outcome_told, outcome_in, outcome_as, outcome_at}
use Rattle.xl_store.specs.Homes.{IsCounted}

-- THE SAVE IS TOLD ALIKE

same_failure : (s : Save) → save_of (failure_in s) ≡ s
same_failure Kept = refl
same_failure (Failed count) = refl

pub same_in : {X : Type 0} (r : Result X Refusal) → save_of (outcome_in r) ≡ save_in r
same_in (Ok done) = refl
same_in (Err why) = same_failure (replies.save_of why)

same_as : (how : Issued) → save_of (outcome_as how) ≡ save_as how
same_as issued.Full = refl
same_as issued.Partial = refl
same_as issued.Silent = refl
same_as (issued.Refused why) = same_failure (replies.save_of why)

pub same_at : (told : TimerAnswer) → save_of (outcome_at told) ≡ save_at told
same_at (timer_answer.Built seq id moved_on how) = same_as how
same_at other = refl

-- A FAILURE WAS COUNTED

-- a failure that is told comes with this
abbrev Counted : ℕ → ℕ → ℕ → Type 0
Counted old new count = Rose old new × (count ≡ new)

told_counted : (w : Refusal) (old new : ℕ) → ((count : ℕ) → w ≡ why.KeepFault count → Counted old new count)
    → IsCounted (outcome_told w) old new
told_counted (why.KeepFault count) old new h = h count refl
told_counted other old new h = tt

pub issue_counted : {X : Type 0} (r : Result X Refusal) (old new : ℕ) → CountsFault r old new
    → IsCounted (outcome_in r) old new
issue_counted (Ok done) old new h = tt
issue_counted (Err w) old new h = told_counted w old new (λ count e. h count (ap Err e))

pub beat_counted : (told : TimerAnswer) (old new : ℕ) → CountsBeatFault told old new → IsCounted (outcome_at told) old new
beat_counted (timer_answer.Built seq id moved_on (issued.Refused w)) old new h =
    told_counted w old new
    (λ count e. h seq id moved_on count (ap (λ (x : Refusal). timer_answer.Built seq id moved_on (issued.Refused x)) e))
beat_counted other old new h = tt

-- THE OUTCOME IS ONE OF THE EVENT'S

-- the outcome of an event that asks this save, which was answered so
abbrev pub outcome_with : Option ℕ → Save → Option Saved
outcome_with None save = None
outcome_with (Some seq) Kept = Some saved.Ok
outcome_with (Some seq) (Failed count) = Some (saved.Failed count)

-- if it was counted, a failure's count is above 0
pub is_outcome : (asked : Option ℕ) (save : Save) (outcome : Option Saved) (old new : ℕ)
    → outcome ≡ outcome_with asked save → IsCounted outcome old new → IsOutcome asked outcome
is_outcome None save outcome old new e counted = e
is_outcome (Some seq) Kept outcome old new e counted = subst (IsOutcome (Some seq)) (sym e) tt
is_outcome (Some seq) (Failed count) outcome old new e counted =
    subst (IsOutcome (Some seq)) (sym e)
    (let c : Counted old new count = subst (λ (o : Option Saved). IsCounted o old new) e counted in
    omega (arith, c.0, c.1))

-- how a step tells its validation
abbrev how_told : Reply → Issued
how_told r = how_issued (refusal_in r.answer) r.issued

unless_with : (n : Node) (off : Option ℕ) (save : Save) (v : Validation)
    → outcome_as (how_told (issued_unless_off n off save v)) ≡ outcome_with (unless_failed off v.seq) save
unless_with n None Kept v =
    cond_both v.full issued.Full issued.Partial (λ how. outcome_as how ≡ Some saved.Ok) (λ _. refl) (λ _. refl)
unless_with n None (Failed count) v = refl
unless_with n (Some failed) save v = refl

issuing_with : (n : Node) (seq : ℕ) (id : LedgerId) (full : Bool) (save : Save)
    → outcome_as (how_told (issuing_reply n seq id full save)) ≡ outcome_with (asks_for n seq) save
issuing_with n seq id full save = by (nat_lt n.kept seq)
  where
    v : Validation
    v = own_validation n seq id full

    by : (above : Bool)
        → outcome_as (how_told (if above then issued_unless_off n n.failed_save save v else refusing_reply n (why.NotAfter n.kept)))
        ≡ outcome_with (if above then unless_failed n.failed_save seq else None) save
    by true = unless_with n n.failed_save save v
    by false = refl

built_with : (n : Node) (h : Header) (moved_on : Bool) (save : Save)
    → outcome_as (how_told (validating_built n h moved_on save))
    ≡ outcome_with (asks_of (Ending n None h 0 moved_on)) save
built_with n h moved_on save = by (validates n moved_on)
  where
    issued_so : Reply
    issued_so = issuing_reply n h.seq (header_id h) (is_proposing n.round.setting.mode) save

    by : (does : Bool) → outcome_as (how_told (if does then issued_so else reply_with n Done []))
        ≡ outcome_with (if does then asks_for n h.seq else None) save
    by true = issuing_with n h.seq (header_id h) (is_proposing n.round.setting.mode) save
    by false = refl

-- what a timer comes to that builds nothing tells that nothing was built
abbrev IsTimedQuiet : TimerOutcome → Type 0
IsTimedQuiet (Quiet n told said) = IsQuiet told
IsTimedQuiet (Ending n said h place moved_on) = Unit {0}

building_quiet : (n : Node) (said : Option Said) (moved_on : Bool) (o : Option Knowing)
    → IsTimedQuiet (built_outcome n said moved_on o)
building_quiet n said moved_on None = tt
building_quiet n said moved_on (Some known) = tt

following_quiet : (n : Node) (said : Option Said) (k : HeartbeatKind) → IsTimedQuiet (kind_outcome n said k)
following_quiet n said kind.Nothing = tt
following_quiet n said kind.Closed = tt
following_quiet n said kind.Updated = tt
following_quiet n said (kind.Ready moved_on) = building_quiet n said moved_on (knowing_of n.ledgers (next_header n))

timed_quiet : (n : Node) → IsTimedQuiet (timer_outcome n)
timed_quiet n =
    let told : HeartbeatReply = heartbeat n.time (seen_of n) n.round in
    cond_both (chosen n == n.round.setting.previous) (heartbeat_outcome n told) (switch_outcome n (chosen n)) IsTimedQuiet
    (λ _. following_quiet (record n { round = told.round }) told.answer.said told.answer.kind) (λ _. tt)

quiet_at : (told : TimerAnswer) → IsQuiet told → outcome_at told ≡ None
quiet_at (timer_answer.Built seq id moved_on how) q = absurd q
quiet_at other q = refl

same_beat : (x y : TimerAnswer) → Beats x ≡ Beats y → x ≡ y
same_beat x y e = cc

completed_with : (t : TimerOutcome) (save : Save) (told : TimerAnswer) → IsTimedQuiet t → Beats told ≡ (timer_reply t save).answer
    → outcome_at told ≡ outcome_with (asks_of t) save
completed_with (Quiet n quiet said) save told q e =
    ap outcome_at (same_beat told quiet e) ∙ quiet_at quiet q
completed_with (Ending n said h place moved_on) save told q e =
    ap outcome_at
    (same_beat told (timer_answer.Built h.seq (header_id h) moved_on (how_told (validating_built n h moved_on save))) e)
    ∙ built_with n h moved_on save

-- of a timer
pub beat_with : (n : Node) (save : Save) (told : TimerAnswer) → Beats told ≡ (timer_reply (timer_outcome n) save).answer
    → outcome_at told ≡ outcome_with (asks_of (timer_outcome n)) save
beat_with n save told e = completed_with (timer_outcome n) save told (timed_quiet n) e

refused_same : (v w : Refusal) → Refused v ≡ Refused w → v ≡ w
refused_same v w e = cc

off_with : {X : Type 0} (r : Result X Refusal) (save : Save) (w : Refusal) → save ≡ save_in r
    → done_answer r ≡ Refused w → replies.save_of w ≡ Kept
    → outcome_in r ≡ None
off_with (Ok done) save w same e kept = absurd (cc e)
off_with (Err v) save w same e kept = ap failure_in (ap replies.save_of (refused_same v w e) ∙ kept)

saved_with : {X : Type 0} (r : Result X Refusal) (n : Node) (seq now : ℕ) (save : Save) (v : Validation)
    → save ≡ save_in r → done_answer r ≡ (issued_reply n now save v).answer → outcome_in r ≡ outcome_with (Some seq) save
saved_with (Ok done) n seq now Kept v same e = refl
saved_with (Ok done) n seq now (Failed count) v same e = absurd (cc e)
saved_with (Err w) n seq now Kept v same e = absurd (cc e)
saved_with (Err w) n seq now (Failed count) v same e = ap failure_in (sym same)

-- of a call that issues
pub issue_with : {X : Type 0} (r : Result X Refusal) (n : Node) (seq : ℕ) (id : LedgerId) (full : Bool) (save : Save)
    → save ≡ save_in r → done_answer r ≡ (issuing_reply n seq id full save).answer → outcome_in r ≡ outcome_with (asks_for n seq) save
issue_with r n seq id full save same = by (nat_lt n.kept seq)
  where
    v : Validation
    v = own_validation n seq id full

    unless : (off : Option ℕ) → done_answer r ≡ (issued_unless_off n off save v).answer
        → outcome_in r ≡ outcome_with (unless_failed off seq) save
    unless None e = saved_with r n seq (second_of n) save v same e
    unless (Some failed) e = off_with r save (why.IssuingOff failed) same e refl

    by : (above : Bool)
        → done_answer r ≡ (if above then issued_unless_off n n.failed_save save v else refusing_reply n (why.NotAfter n.kept)).answer
        → outcome_in r ≡ outcome_with (if above then unless_failed n.failed_save seq else None) save
    by true e = unless n.failed_save e
    by false e = off_with r save (why.NotAfter n.kept) same e refl
