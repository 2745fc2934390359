-- What a node is asked changes little of it.
use Rattle.std.proofs.Common.{◌≡◌, ℕ, zero, suc, ◌/◌, Bool, true, false, List, refl, sym, ap, ◌∙◌, subst, Option, Some, None}
use Rattle.std.specs.Prelude.{◌==◌, ◌&&◌, max, nat_lt}
use Rattle.std.specs.Option.{option_and_then}
use Rattle.std.proofs.lemmas.Bool.{cond_both}
use Rattle.xl_base.specs.declared.ids.LedgerId.{LedgerId}
use Rattle.xl_wire.specs.declared.validation.Validation.{Validation}
use Rattle.xl_validations.specs.declared.row.Row.{Row}
use Rattle.xl_validations.specs.Rows.{current_of}
use Rattle.xl_rounds.specs.declared.phase.Mode.TheVariants.{SwitchedLedger}
use Rattle.xl_rounds.specs.declared.phase.Phase.{Phase}
use Rattle.xl_rounds.specs.declared.phase.Phase.TheVariants.{Open, Establish, Accepted}
use Rattle.xl_rounds.specs.Closing.{should_close}
use Rattle.xl_rounds.specs.Heartbeats.{HeartbeatReply, beat_in, closed_at, closed_beat, heartbeat, quiet_reply, waiting_of}
use Rattle.xl_ledger.specs.declared.header.Header.{Header as LedgerHeader}
use Rattle.xl_rounds.specs.declared.setting.Setting.{Setting}
use Rattle.xl_rounds.specs.Proposals.{later_of, started_round, with_all_handed}
use Rattle.xl_rounds.specs.Settings.{setting_on}
use Rattle.xl_rounds.proofs.StartLaws.{setting_handed}
use Rattle.xl_rounds.specs.Rounds.{Round, on_ledger}
use Rattle.xl_core.specs.declared.refusal.Refusal.TheVariants.{NotAfter}
use Rattle.xl_core.specs.Node.{Issue, Node, Reply, Save, Timer, at_moment, chosen, happens, heartbeat_outcome, issued_reply, issued_unless_off, issuing_reply, own_validation, refusing_reply, second_of, seen_of, switch_outcome, take, timer_outcome, timer_reply}
use Rattle.xl_core.specs.Issuing.Save.{Kept, Failed}
use Rattle.xl_noted.specs.Asking.{LeavesForBeat, LeavesForIssue, is_open, is_still}
use Rattle.xl_noted.proofs.Currents.{AreCurrent}
use Rattle.xl_noted.proofs.Hearing.{other_row, taken_member, within}

-- AN ISSUE

still : (n later : Node) → later.list ≡ n.list → later.ledgers ≡ n.ledgers → later.round ≡ n.round → later.rows ≡ n.rows → LeavesForIssue n later
still n later list ledgers round rows = record {
  list = list;
  ledgers = ledgers;
  round = round;
  rows = λ k _. ap (λ (rs : List Row). current_of rs k) rows;
}

issued : (n : Node) (save : Save) (v : Validation) → LeavesForIssue n (issued_reply n (second_of n) save v).node
issued n Kept v = record {
  list = refl;
  ledgers = refl;
  round = refl;
  rows = λ k other. ap (option_and_then (λ (row : Row). row.current)) (other_row n.me k (take (second_of n) v) n.rows (taken_member (second_of n) v) other);
}
issued n (Failed count) v = still n _ refl refl refl refl

unless_off : (n : Node) (off : Option ℕ) (save : Save) (v : Validation) → LeavesForIssue n (issued_unless_off n off save v).node
unless_off n None save v = issued n save v
unless_off n (Some failed) save v = still n _ refl refl refl refl

issuing : (n : Node) (seq : ℕ) (id : LedgerId) (full : Bool) (save : Save) → LeavesForIssue n (issuing_reply n seq id full save).node
issuing n seq id full save =
    cond_both (nat_lt n.kept seq) (issued_unless_off n n.failed_save save (own_validation n seq id full)) (refusing_reply n (NotAfter n.kept)) (λ (reply : Reply). LeavesForIssue n reply.node)
    (λ _. unless_off n n.failed_save save (own_validation n seq id full)) (λ _. still n _ refl refl refl refl)

-- what a node issues within a second leaves what it holds of all others
pub issue_leaves : (at : ℕ) (n : Node) (seq : ℕ) (id : LedgerId) (full : Bool) (save : Save) → AreCurrent n → max n.time at / 1000 ≡ n.time / 1000 →
    LeavesForIssue n (happens n (Issue at seq id full) save).node
issue_leaves at n seq id full save current same =
    let leaves = issuing (at_moment at n) seq id full save in
    record {
      list = leaves.list;
      ledgers = leaves.ledgers;
      round = leaves.round;
      rows = λ k other. leaves.rows k other ∙ ap (λ (rows : List Row). current_of rows k) (within at n current same);
    }

-- A BEAT

-- another round, and nothing else; and if it is open still, the same
pub record InAnother (n later : Node) : Type 0 where
  pub round : Round
  pub is : later ≡ record n { round = round }
  pub still : is_still n.round.setting.previous round ≡ true → round ≡ record n.round { ready = None }

closed_otherwise : false ≡ true → ⊥
closed_otherwise e = cc

beaten : (n : Node) (save : Save) → (p : Phase) → p ≡ Open → InAnother n (timer_reply (heartbeat_outcome n (beat_in p n.time (seen_of n) n.round)) save).node
beaten n save p is =
    subst (λ (q : Phase). InAnother n (timer_reply (heartbeat_outcome n (beat_in q n.time (seen_of n) n.round)) save).node) (sym is)
    (cond_both (should_close (waiting_of n.round n.time (seen_of n).validated)) (closed_beat (closed_at n.time n.round)) (quiet_reply n.round)
    (λ (reply : HeartbeatReply). InAnother n (timer_reply (heartbeat_outcome n reply) save).node)
    (λ _. record { round = closed_at n.time n.round; is = refl; still = λ still. absurd (closed_otherwise still) })
    (λ _. record { round = record n.round { ready = None }; is = refl; still = λ _. refl }))

-- what is handed in changes no setting
all_setting : (ledgers : List LedgerHeader) (n now : ℕ) (r : Round) → (with_all_handed ledgers n now r).setting ≡ r.setting
unfolding with_all_handed
all_setting ledgers zero now r = refl
all_setting ledgers (suc n) now r =
    let before : Round = with_all_handed ledgers n now r in
    setting_handed ledgers (suc n) (later_of before (suc n)) now before ∙ all_setting ledgers n now r

-- so a round that starts on a ledger is on it
started_on : (ledgers : List LedgerHeader) (previous now : ℕ) (r : Round) → (started_round ledgers previous SwitchedLedger now r).setting.previous ≡ previous
started_on ledgers previous now r =
    ap (λ (s : Setting). s.previous) (all_setting ledgers 64 (now / 1000) (on_ledger (setting_on ledgers previous SwitchedLedger now) r))

-- a ledger that wasn't the previous one isn't it
not_both : (a : Bool) (b c : ℕ) → (b == c) ≡ false → (a && b == c) ≡ true → ⊥
not_both true b c other still = closed_otherwise (sym other ∙ still)
not_both false b c other still = closed_otherwise still

beats : (n : Node) (save : Save) → n.round.phase ≡ Open → InAnother n (timer_reply (timer_outcome n) save).node
beats n save opened =
    cond_both (chosen n == n.round.setting.previous) (heartbeat_outcome n (heartbeat n.time (seen_of n) n.round)) (switch_outcome n (chosen n))
    (λ outcome. InAnother n (timer_reply outcome save).node)
    (λ _. beaten n save n.round.phase opened)
    (λ other. record {
      round = started_round n.ledgers.headers (chosen n) SwitchedLedger n.time n.round;
      is = refl;
      still = λ still. absurd (not_both (is_open (started_round n.ledgers.headers (chosen n) SwitchedLedger n.time n.round).phase) (started_round n.ledgers.headers (chosen n) SwitchedLedger n.time n.round).setting.previous n.round.setting.previous
          (ap (λ (k : ℕ). k == n.round.setting.previous) (started_on n.ledgers.headers (chosen n) n.time n.round) ∙ other) still);
    })

opened_phase : (p : Phase) → is_open p ≡ true → p ≡ Open
opened_phase Open is = refl
opened_phase Establish is = absurd (closed_otherwise is)
opened_phase Accepted is = absurd (closed_otherwise is)

-- a timer within a second at an open round leaves all but the round
pub beat_leaves : (at : ℕ) (n : Node) (save : Save) → AreCurrent n → max n.time at / 1000 ≡ n.time / 1000 → is_open n.round.phase ≡ true →
    LeavesForBeat n (happens n (Timer at) save).node
beat_leaves at n save current same opened =
    let another = beats (at_moment at n) save (opened_phase n.round.phase opened) in
    record {
      list = ap (λ (later : Node). later.list) another.is;
      ledgers = ap (λ (later : Node). later.ledgers) another.is;
      rows = ap (λ (later : Node). later.rows) another.is ∙ within at n current same;
      kept = ap (λ (later : Node). later.kept) another.is;
      failed_save = ap (λ (later : Node). later.failed_save) another.is;
      last = ap (λ (later : Node). later.last) another.is;
      still = λ still. ap (λ (later : Node). later.round) another.is ∙ another.still (sym (ap (λ (later : Node). is_still n.round.setting.previous later.round) another.is) ∙ still);
    }
