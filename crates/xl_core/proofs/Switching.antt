-- What the timer's calls tell, put together.
use Rattle.std.proofs.Common.{◌≡◌, ◌∙◌, ℕ, ◌<◌, Bool, [], length, subst, Option, Some, None, Result, Ok, Err, refl, ap, sym}
use Rattle.xl_base.specs.declared.ids.LedgerId.{LedgerId}
use Rattle.xl_ledger.specs.Chains.{id_at}
use Rattle.xl_rounds.specs.declared.heartbeat.HeartbeatKind.{HeartbeatKind}
use Rattle.xl_rounds.specs.declared.heartbeat.HeartbeatKind.TheVariants.{Ready}
use Rattle.xl_rounds.specs.declared.heartbeat.Heartbeat.{Heartbeat}
use Rattle.xl_rounds.specs.declared.heartbeat.Said.{Said}
use Rattle.xl_rounds.specs.declared.heartbeat.Seen.{Seen}
use Rattle.xl_rounds.specs.Heartbeats.{heartbeat, beat_in, open_beat, establish_beat}
use Rattle.xl_rounds.specs.declared.phase.Phase.{Phase}
use Rattle.xl_rounds.specs.declared.phase.Phase.TheVariants.{Open, Establish, Accepted}
use Rattle.xl_validations.specs.Rows.{named}
use Rattle.xl_core.specs.declared.timer_part.TimerPart.{TimerPart}
use Rattle.xl_core.specs.Building.{knowing_of}
use Rattle.xl_core.specs.Node.{Node, Reply, Save, chosen, timer_outcome, switch_outcome, seen_of, next_header, built_outcome, kind_outcome, heartbeat_outcome, issuing_reply, issued_unless_off, own_validation, refusing_reply, reply_with, validates}
use Rattle.xl_core.specs.TimerParts.{outcome_by, validating_reply, validated_reply}
use Rattle.std.specs.Prelude.{◌==◌, nat_lt, true}
use Rattle.std.proofs.lemmas.Bool.{cond_both, cond-true}
use Rattle.xl_ledger.specs.Headers.{header_id}
use Rattle.xl_ledger.specs.Registries.{Ledgers}
use Rattle.xl_rounds.specs.declared.phase.Mode.{Mode}
use Rattle.xl_rounds.specs.declared.setting.Setting.{Setting}
use Rattle.xl_rounds.specs.Rounds.{Round, is_proposing}
use Rattle.xl_rounds.specs.Settings.{setting_on}
use Rattle.xl_core.specs.declared.refusal.Refusal.{Refusal}
use Rattle.xl_core.specs.declared.refusal.Refusal.TheVariants.{NotAfter}
use Rattle.xl_core.specs.declared.report.OwnValidation.{OwnValidation}
use Rattle.xl_core.specs.declared.timer_part.Built.{Built}
use Rattle.xl_core.specs.Answers.{Done}
use Rattle.xl_core.specs.Issuing.Save.{Kept, Failed}
use Rattle.xl_core.specs.Replies.{save_in}
use Rattle.xl_core.specs.Rest.{IsReady}
use Rattle.xl_core.proofs.Learning.{round_ready}

-- who has validated the round's previous ledger
pub validated_is : (n : Node) (me previous : ℕ) (id : LedgerId) (validated : ℕ) → me ≡ n.me → previous ≡ n.round.setting.previous → id ≡ id_at n.ledgers.headers previous → validated ≡ named me id n.rows →
    validated ≡ (seen_of n).validated
validated_is n me previous id validated is_me is_previous is_id is_validated =
    is_validated ∙ ap (λ (k : ℕ). named k id n.rows) is_me ∙ ap (λ (i : LedgerId). named n.me i n.rows) (is_id ∙ ap (id_at n.ledgers.headers) is_previous)

-- a phase asks for one of what the validations tell, or for none
pub asks_open : (now : ℕ) (one other : Seen) (r : Round) → r.phase ≡ Open → one.validated ≡ other.validated → heartbeat now one r ≡ heartbeat now other r
asks_open now one other r opens same =
    ap (λ (p : Phase). beat_in p now one r) opens ∙ ap (λ (k : ℕ). open_beat now k r) same ∙ ap (λ (p : Phase). beat_in p now other r) (sym opens)

pub asks_establish : (now : ℕ) (one other : Seen) (r : Round) → r.phase ≡ Establish → one.finished ≡ other.finished → heartbeat now one r ≡ heartbeat now other r
asks_establish now one other r establish same =
    ap (λ (p : Phase). beat_in p now one r) establish ∙ ap (λ (k : ℕ). establish_beat now k r) same ∙ ap (λ (p : Phase). beat_in p now other r) (sym establish)

pub asks_nothing : (now : ℕ) (one other : Seen) (r : Round) → r.phase ≡ Accepted → heartbeat now one r ≡ heartbeat now other r
asks_nothing now one other r accepted =
    ap (λ (p : Phase). beat_in p now one r) accepted ∙ ap (λ (p : Phase). beat_in p now other r) (sym accepted)

-- the round is ready, and its ledger is built
pub built_then : (n m : Node) (kind : HeartbeatKind) (said : Option Said) (moved_on : Bool) (t : TimerPart) (after : Node) → kind ≡ Ready moved_on →
    m ≡ record n { round = (heartbeat n.time (seen_of n) n.round).round } → (let p : Heartbeat = record { kind = kind; said = said } in p) ≡ (heartbeat n.time (seen_of n) n.round).answer →
    outcome_by t after ≡ built_outcome m said moved_on (knowing_of m.ledgers (next_header m)) → outcome_by t after ≡ heartbeat_outcome n (heartbeat n.time (seen_of n) n.round)
built_then n m kind said moved_on t after is_kind is_node is_pulse is =
    is ∙ ap (λ (k : HeartbeatKind). kind_outcome m said k) (sym is_kind)
    ∙ ap (λ (p : Heartbeat). kind_outcome m p.said p.kind) is_pulse
    ∙ ap (λ (x : Node). kind_outcome x (heartbeat n.time (seen_of n) n.round).answer.said (heartbeat n.time (seen_of n) n.round).answer.kind) is_node

-- the votes choose the round's ledger
pub goes_on_then : (m : Node) (ledger previous : ℕ) (eq : Bool) (t : TimerPart) (after : Node) → ledger ≡ chosen m → previous ≡ m.round.setting.previous → (ledger == previous) ≡ true →
    outcome_by t after ≡ heartbeat_outcome m (heartbeat m.time (seen_of m) m.round) → outcome_by t after ≡ timer_outcome m
goes_on_then m ledger previous eq t after is_ledger is_previous same is =
    is ∙ sym (cond-true (chosen m == m.round.setting.previous) (heartbeat_outcome m (heartbeat m.time (seen_of m) m.round)) (switch_outcome m (chosen m))
    (ap (λ (n : ℕ). n == m.round.setting.previous) (sym is_ledger) ∙ ap (λ (n : ℕ). ledger == n) (sym is_previous) ∙ same))

-- VALIDATING

-- validating leaves the ledgers, and the number of its code
issuing_ledgers : (n : Node) (seq : ℕ) (id : LedgerId) (full : Bool) (save : Save) → (issuing_reply n seq id full save).node.ledgers ≡ n.ledgers
issuing_ledgers n seq id full save =
    cond_both (nat_lt n.kept seq) (issued_unless_off n n.failed_save save (own_validation n seq id full)) (refusing_reply n (NotAfter n.kept)) (λ r. r.node.ledgers ≡ n.ledgers)
    (λ _. by n.failed_save save) (λ _. refl)
  where
    by : (failed : Option ℕ) (s : Save) → (issued_unless_off n failed s (own_validation n seq id full)).node.ledgers ≡ n.ledgers
    by None Kept = refl
    by None (Failed count) = refl
    by (Some f) s = refl

reply_node : (o : Result (Option OwnValidation) Refusal) (n : Node) → (validated_reply o n).node ≡ n
reply_node (Ok None) n = refl
reply_node (Ok (Some own)) n = refl
reply_node (Err why) n = refl

pub same_ledgers : (n m : Node) (b : Built) (o : Result (Option OwnValidation) Refusal) → validated_reply o m ≡ validating_reply n b (save_in o) → m.ledgers ≡ n.ledgers
same_ledgers n m b o is =
    ap (λ (x : Node). x.ledgers) (sym (reply_node o m)) ∙ ap (λ (r : Reply). r.node.ledgers) is
    ∙ cond_both (validates n b.moved_on) (issuing_reply n b.header.seq (header_id b.header) (is_proposing n.round.setting.mode) (save_in o)) (reply_with n Done []) (λ r. r.node.ledgers ≡ n.ledgers)
    (λ _. issuing_ledgers n b.header.seq (header_id b.header) (is_proposing n.round.setting.mode) (save_in o)) (λ _. refl)

-- so the built ledger is known still
pub still_known : (n m x : Node) (b : Built) (o : Result (Option OwnValidation) Refusal) → x ≡ m → validated_reply o m ≡ validating_reply n b (save_in o) → b.ledger < length n.ledgers.headers → b.ledger < length x.ledgers.headers
still_known n m x b o same is within = subst (λ (l : Ledgers). b.ledger < length l.headers) (sym (ap (λ (y : Node). y.ledgers) same ∙ same_ledgers n m b o is)) within

-- and the node is ready in the round on it
pub concluded_ready : (n : Node) (ledger : ℕ) (mode : Mode) (r : Round) → r.setting ≡ setting_on n.ledgers.headers ledger mode n.time → ledger < length n.ledgers.headers → IsReady n → IsReady (record n { round = r })
concluded_ready n ledger mode r is within ready = round_ready n r (subst (λ (p : ℕ). p < length n.ledgers.headers) (sym (ap (λ (s : Setting). s.previous) is)) within) ready
