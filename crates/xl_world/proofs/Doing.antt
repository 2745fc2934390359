-- What happens at a core whose disk's save meets a fate: the core, what is said of it, and the disk.
use Rattle.std.proofs.Common.{◌≡◌, ◌≢◌, ℕ, ◌≤◌, Bool, true, false, List, [], refl, ap, sym, ◌∙◌, Option, Some, None}
use Rattle.std.specs.Prelude.{◌==◌, IfSome, IsSome, if◌then◌else◌, is_some, nat_lt, option_map, option_to_list, unwrap_or}
use Rattle.std.proofs.lemmas.Bool.{cond_both}
use Rattle.xl_base.specs.declared.ids.LedgerId.{LedgerId}
use Rattle.xl_ledger.specs.Chains.{seq_at, id_at}
use Rattle.xl_ledger.specs.Headers.{header_id}
use Rattle.xl_ledger.specs.Registries.{Ledgers}
use Rattle.xl_ledger.specs.declared.header.Header.{Header}
use Rattle.xl_rounds.specs.Heartbeats.{HeartbeatReply, heartbeat}
use Rattle.xl_rounds.specs.Proposals.{started_round}
use Rattle.xl_rounds.specs.Rounds.{Round, accepted_round, is_proposing, leave}
use Rattle.xl_rounds.specs.declared.phase.Mode.TheVariants.{SwitchedLedger}
use Rattle.xl_rounds.specs.declared.heartbeat.HeartbeatKind.{HeartbeatKind}
use Rattle.xl_rounds.specs.declared.heartbeat.HeartbeatKind.TheVariants as kind
use Rattle.xl_rounds.specs.declared.heartbeat.Said.{Said}
use Rattle.xl_tags.specs.Rings.{key_of, schedule_ring}
use Rattle.xl_core.specs.Answers.{Done as AnsweredDone, refusal_in}
use Rattle.xl_core.specs.Building.{Knowing, alone, how_issued, knowing_of}
use Rattle.xl_core.specs.Core.{Core, CoreReply, core_asks, core_happens}
use Rattle.xl_core.specs.Hearing.{bytes_as_sealed}
use Rattle.xl_core.specs.Keeping.{Saves}
use Rattle.xl_core.specs.Deeds.{CountsFailure, Happens, save_told}
use Rattle.xl_core.specs.Deeds.{answer_of as told_as}
use Rattle.xl_core.specs.declared.core_answer.CoreAnswer.{CoreAnswer}
use Rattle.xl_core.specs.Node as nodes
use Rattle.xl_core.specs.Node.{Node, Reply, Save, TimerOutcome, heartbeat_outcome, at_moment, next_header, built_outcome, chosen, timer_reply, kind_outcome, happens, is_kept, issued_unless_off, issuing_reply, own_validation, refusing_reply, reply_with, seen_of, switch_outcome, taken_reply, timer_outcome, validates, validating_built}
use Rattle.xl_core.specs.Issuing.Save.{Kept as AnsweredOk, Failed as AnsweredFailed}
use Rattle.xl_core.specs.Timer.TimerOutcome.{Quiet, Ending}
use Rattle.xl_core.specs.declared.timer_answer.TimerAnswer.{TimerAnswer}
use Rattle.xl_core.specs.declared.timer_answer.TimerAnswer.TheVariants as timer_answer
use Rattle.xl_core.specs.declared.event.CoreEvent.{CoreEvent}
use Rattle.xl_core.specs.declared.event.CoreEvent.TheVariants.{Relist}
use Rattle.xl_core.specs.declared.hearing.Speech.{Speech}
use Rattle.xl_core.specs.declared.hearing.Speech.TheVariants as speech
use Rattle.xl_core.specs.declared.refusal.Refusal.TheVariants as why
use Rattle.xl_core.specs.declared.report.Report.{Report}
use Rattle.xl_core.proofs.Frames.{hearing_either}
use Rattle.xl_core.proofs.Timing.{submit_either, relist_either}
use Rattle.xl_core.specs.declared.deed.Deed.{Deed}
use Rattle.xl_core.specs.declared.deed.Deed.TheVariants as deed
use Rattle.xl_world.specs.declared.place.Fate.{Fate}
use Rattle.xl_world.specs.declared.place.Fate.TheVariants.{Saved, Unwritten, Written}
use Rattle.xl_world.specs.declared.place.Disk.{Disk}
use Rattle.xl_world.specs.declared.saving.Fated.{Fated}
use Rattle.xl_world.specs.Disk.{after_save, answer_of, answers_ok}
use Rattle.xl_world.specs.Seen.{Does, deed_event, is_relisted, list_now, said_by_beat, said_by_issued, said_in}
use Rattle.xl_world.specs.World.{said_by, set_by}
use Rattle.xl_world.proofs.Lying.{key_of_another}
use Rattle.xl_core.proofs.Unasked.{unasked_alike}
use Rattle.xl_world.proofs.Taking.{same_option, untaken_is}

-- another member's number has a key
pub peer_of : (me m : ℕ) → 1 ≤ m → m ≤ 64 → m ≢ me → IsSome (key_of (schedule_ring me) m)
peer_of me m low high other = ap is_some (key_of_another me m low high other)

-- HOW A SAVE IS ANSWERED

-- as one is that meets the fate, where it is answered so and the count of faults is the disk's
met : (save : Save) (k : Disk) (s : ℕ) (fate : Fate) → is_kept save ≡ answers_ok fate → ((count : ℕ) → save ≡ AnsweredFailed count → count ≡ (after_save k (Some s) fate).faults) → save ≡ answer_of k fate
met AnsweredOk k s Saved is counts = refl
met AnsweredOk k s Unwritten is counts = cc
met AnsweredOk k s Written is counts = cc
met (AnsweredFailed n) k s Saved is counts = cc
met (AnsweredFailed n) k s Unwritten is counts = ap (λ (m : ℕ). AnsweredFailed m) (counts n refl)
met (AnsweredFailed n) k s Written is counts = ap (λ (m : ℕ). AnsweredFailed m) (counts n refl)

-- what a save that is asked of a disk under a fate leaves of it
abbrev pub Gives : Fated → ℕ → Bool → Fated → Type 0
Gives old seq ok new = (ok ≡ answers_ok old.fate) × (new.disk ≡ after_save old.disk (Some seq) old.fate) × (new.asked ≡ Some seq)

-- the disk after an event that asks this save, or none
pub record IsFated (asks : Option ℕ) (save : Save) (old new : Fated) : Type 0 where
  pub disk : new.disk ≡ after_save old.disk asks old.fate
  pub asked : old.asked ≡ None → new.asked ≡ asks
  pub answered : IfSome asks (λ s. save ≡ answer_of old.disk old.fate)

pub fated : (asked : Option ℕ) (save : Save) (old new : Fated) → Saves Gives asked (is_kept save) old new → CountsFailure asked save old.disk.faults new.disk.faults → IsFated asked save old new
fated None save old new same counts = record {
  disk = ap (λ (f : Fated). f.disk) same;
  asked = λ none. ap (λ (f : Fated). f.asked) same ∙ none;
  answered = tt;
}
fated (Some s) save old new gives counts = record {
  disk = gives.1;
  asked = λ _. gives.2;
  answered = met save old.disk s old.fate gives.0 (λ count is. (counts count is).1 ∙ ap (λ (k : Disk). k.faults) gives.1);
}

-- what happens under that answer happens under the fate
alike : (core : Core) (e : CoreEvent) (save : Save) (k : Disk) (fate : Fate) → IfSome (core_asks core e) (λ s. save ≡ answer_of k fate) → core_happens core e save ≡ core_happens core e (answer_of k fate)
alike core e save k fate answered = by (core_asks core e) refl answered
  where
    by : (asked : Option ℕ) → core_asks core e ≡ asked → IfSome asked (λ s. save ≡ answer_of k fate) → core_happens core e save ≡ core_happens core e (answer_of k fate)
    by None asks is = unasked_alike core e save (answer_of k fate) asks
    by (Some s) asks is = ap (core_happens core e) is

-- what happens at a core under a disk
pub happens_does : (core after : Core) (e : CoreEvent) (told : CoreAnswer) (old new : Fated) → Happens (λ f. Some (record { in_force = f.disk.in_force; asked = f.disk.asked })) (λ f. None) (λ f. f.disk.faults) Gives core e after told old new → Does core e old after told new
happens_does core after e told old new h =
    let save : Save = save_told (told_as told) in
    let is : IsFated (core_asks core e) save old new = fated (core_asks core e) save old new h.asks.keeper h.fault in
    let same : core_happens core e save ≡ core_happens core e (answer_of old.disk old.fate) = alike core e save old.disk old.fate is.answered in
    record {
      core = h.step.core ∙ ap (λ (r : CoreReply). r.core) same;
      says = h.step.answer ∙ ap (λ (r : CoreReply). r.answer) same;
      disk = is.disk;
      asked = is.asked;
    }

-- WHAT ASKS NO SAVE

-- no frame makes a node issue
taking_quiet : (n : Node) (from : ℕ) (what : Speech) → (taken_reply n from what).issued ≡ None
taking_quiet n from (speech.Validation v) = refl
taking_quiet n from other = refl

pub frame_quiet : (n : Node) (now : ℕ) (bytes : List ℕ) → (happens n (nodes.Frame now bytes) AnsweredOk).issued ≡ None
frame_quiet n now bytes =
    let m : Node = at_moment now n in hearing_either (λ r. r.issued ≡ None) m bytes (λ _. refl) (λ said _. taking_quiet m said.from said.what)

-- A TIMER

-- a timer that builds nothing says nothing of a validation
abbrev SaysNone : TimerAnswer → Type 0
SaysNone told = (member : ℕ) → said_by_beat member told ≡ None

module _ (P : TimerOutcome → Type 0) (n : Node)
    (quiet : (r : Round) (told : TimerAnswer) (said : Option Said) → SaysNone told → P (Quiet (record n { round = r }) told said))
    (ends : (ledgers : Ledgers) (r : Round) (said : Option Said) (h : Header) (place : ℕ) (moved_on : Bool) → P (Ending (record n { ledgers = ledgers; round = r }) said h place moved_on)) where
  after_building : (r : Round) (said : Option Said) (moved_on : Bool) (o : Option Knowing) → P (built_outcome (record n { round = r }) said moved_on o)
  after_building r said moved_on None = quiet r (timer_answer.NoRoom n.ledgers.limit) said (λ _. refl)
  after_building r said moved_on (Some k) = ends k.ledgers (accepted_round (unwrap_or r.ready 0) r) said (next_header (record n { round = r })) k.place moved_on

  after_kind : (r : Round) (said : Option Said) (k : HeartbeatKind) → P (kind_outcome (record n { round = r }) said k)
  after_kind r said kind.Nothing = quiet r timer_answer.Nothing said (λ _. refl)
  after_kind r said kind.Closed = quiet r timer_answer.Closed said (λ _. refl)
  after_kind r said kind.Updated = quiet r timer_answer.Updated said (λ _. refl)
  after_kind r said (kind.Ready moved_on) = after_building r said moved_on (knowing_of n.ledgers (next_header (record n { round = r })))

  timed_by : P (timer_outcome n)
  timed_by =
      let turn : HeartbeatReply = heartbeat n.time (seen_of n) n.round in
      let ledgers = n.ledgers.headers in
      cond_both (chosen n == n.round.setting.previous) (heartbeat_outcome n turn) (switch_outcome n (chosen n)) P
      (λ _. after_kind turn.round turn.answer.said turn.answer.kind)
      (λ _. quiet (started_round ledgers (chosen n) SwitchedLedger n.time n.round) (timer_answer.Switched (seq_at ledgers (chosen n)) (id_at ledgers (chosen n))) (alone (leave n.time n.round)) (λ _. refl))

-- what is told of a built ledger is what was issued
abbrev TellsIssued : ℕ → LedgerId → Reply → Type 0
TellsIssued seq id r = (member : ℕ) → said_by_issued member seq id (how_issued (refusal_in r.answer) r.issued) ≡ option_map (said_by member) r.issued

unless_told : (n : Node) (off : Option ℕ) (save : Save) (seq : ℕ) (id : LedgerId) (full : Bool) → TellsIssued seq id (issued_unless_off n off save (own_validation n seq id full))
unless_told n None AnsweredOk seq id true member = refl
unless_told n off save seq id full member = refl

issuing_told : (n : Node) (seq : ℕ) (id : LedgerId) (full : Bool) (save : Save) → TellsIssued seq id (issuing_reply n seq id full save)
issuing_told n seq id full save =
    cond_both (nat_lt n.kept seq) (issued_unless_off n n.failed_save save (own_validation n seq id full)) (refusing_reply n (why.NotAfter n.kept)) (TellsIssued seq id) (λ _. unless_told n n.failed_save save seq id full) (λ _ member. refl)

validating_told : (n : Node) (h : Header) (moved_on : Bool) (save : Save) → TellsIssued h.seq (header_id h) (validating_built n h moved_on save)
validating_told n h moved_on save =
    cond_both (validates n moved_on) (issuing_reply n h.seq (header_id h) (is_proposing n.round.setting.mode) save) (reply_with n AnsweredDone []) (TellsIssued h.seq (header_id h))
    (λ _. issuing_told n h.seq (header_id h) (is_proposing n.round.setting.mode) save) (λ _ member. refl)

-- WHAT AN ANSWER TELLS

-- the validation that was issued
abbrev TellsSaid : Deed → Reply → Type 0
TellsSaid d r = (member : ℕ) → said_in member d r.answer ≡ option_map (said_by member) r.issued

unless_said : (now : ℕ) (n : Node) (off : Option ℕ) (save : Save) (seq : ℕ) (id : LedgerId) (full : Bool) → TellsSaid (deed.Issue now seq id full) (issued_unless_off n off save (own_validation n seq id full))
unless_said now n None AnsweredOk seq id full member = refl
unless_said now n None (AnsweredFailed count) seq id full member = refl
unless_said now n (Some failed) save seq id full member = refl

issuing_said : (now : ℕ) (n : Node) (seq : ℕ) (id : LedgerId) (full : Bool) (save : Save) → TellsSaid (deed.Issue now seq id full) (issuing_reply n seq id full save)
issuing_said now n seq id full save =
    cond_both (nat_lt n.kept seq) (issued_unless_off n n.failed_save save (own_validation n seq id full)) (refusing_reply n (why.NotAfter n.kept)) (TellsSaid (deed.Issue now seq id full)) (λ _. unless_said now n n.failed_save save seq id full) (λ _ member. refl)

timer_said : (now : ℕ) (n : Node) (save : Save) → TellsSaid (deed.Timer now) (timer_reply (timer_outcome n) save)
timer_said now n save =
    timed_by (λ t. TellsSaid (deed.Timer now) (timer_reply t save)) n
    (λ r beat said none member. none member)
    (λ ledgers r said h place moved_on member. validating_told (record n { ledgers = ledgers; round = r }) h moved_on save member)

pub said_so : (core : Core) (i : ℕ) (d : Deed) (save : Save) → let r : CoreReply = core_happens core (deed_event i d) save in said_in core.node.me d r.answer ≡ option_map (said_by core.node.me) r.issued
said_so core i (deed.Issue now seq id full) save = issuing_said now (at_moment now core.node) seq id full save core.node.me
said_so core i (deed.Frame now bytes) save = ap (option_map (said_by core.node.me)) (sym (frame_quiet core.node now bytes.now))
said_so core i (deed.Sealed now bytes) save = ap (option_map (said_by core.node.me)) (sym (frame_quiet core.node now (bytes_as_sealed (schedule_ring i) bytes.now)))
said_so core i (deed.Timer now) save = timer_said now (at_moment now core.node) save core.node.me
said_so core i (deed.Submit now tx) save = submit_either (TellsSaid (deed.Submit now tx)) (at_moment now core.node) tx (λ _ member. refl) (λ member. refl) core.node.me
said_so core i (deed.Relist now list) save = relist_either (TellsSaid (deed.Relist now list)) (at_moment now core.node) list.now (λ _ member. refl) (λ _ member. refl) core.node.me
said_so core i other save = refl

-- the list that was set
pub set_so : (core : Core) (i : ℕ) (d : Deed) (save : Save) → let r : CoreReply = core_happens core (deed_event i d) save in
    (if is_relisted d r.answer then Some (list_now r.core.node) else None) ≡ set_by core.node.me (deed_event i d) r.answer
set_so core i (deed.Relist now list) save =
    relist_either (λ r. (if is_relisted (deed.Relist now list) r.answer then Some (list_now r.node) else None) ≡ set_by core.node.me (Relist now list.now) r.answer) (at_moment now core.node) list.now (λ _. refl) (λ _. refl)
set_so core i other save = refl

-- THE REPORT THAT IS LEFT

-- what is untaken then is what arose
pub untaken_then : (core : Core) (i : ℕ) (d : Deed) (save : Save) → core.untaken.items ≡ [] → let r : CoreReply = core_happens core (deed_event i d) save in r.core.untaken.items ≡ option_to_list r.report
untaken_then core i (deed.Issue now seq id full) save none = untaken_is core.untaken (happens core.node (nodes.Issue now seq id full) save).report none
untaken_then core i (deed.Frame now bytes) save none = untaken_is core.untaken (happens core.node (nodes.Frame now bytes.now) save).report none
untaken_then core i (deed.Sealed now bytes) save none = untaken_is core.untaken (happens core.node (nodes.Frame now (bytes_as_sealed (schedule_ring i) bytes.now)) save).report none
untaken_then core i (deed.Timer now) save none = untaken_is core.untaken (happens core.node (nodes.Timer now) save).report none
untaken_then core i (deed.Submit now tx) save none = untaken_is core.untaken (happens core.node (nodes.Submit now tx) save).report none
untaken_then core i (deed.Relist now list) save none = untaken_is core.untaken (happens core.node (nodes.Relist now list.now) save).report none
untaken_then core i other save none = none

-- the report that is taken is the one that arose
pub report_left : (a : Core) (r : CoreReply) (given : Option Report) → r.core.untaken.items ≡ option_to_list r.report → a ≡ r.core → option_to_list given ≡ a.untaken.items → given ≡ r.report
report_left a r given left is gives = same_option given r.report (gives ∙ (ap (λ (k : Core). k.untaken.items) is ∙ left))
