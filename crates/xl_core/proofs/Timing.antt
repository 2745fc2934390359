-- What a timer comes to: a node in another round that says a position at most, or one that has built a ledger.
use Rattle.std.proofs.Common.{◌≡◌, ℕ, ◌<◌, ◌≤◌, Bool, [], ◌∷◌, length, refl, arith, Option, Some, None, length-append}
use Rattle.std.specs.Prelude.{◌==◌, nat_le, unwrap_or, IfSome}
use Rattle.std.proofs.lemmas.Bool.{cond_both}
use Rattle.xl_base.specs.declared.ids.TxId.{TxId}
use Rattle.xl_ledger.specs.declared.header.Header.{Header}
use Rattle.xl_ledger.specs.Chains.{seq_at, id_at, place_of}
use Rattle.xl_ledger.specs.Headers.{header_id}
use Rattle.xl_ledger.specs.Registries.{Ledgers, with_header}
use Rattle.xl_validations.proofs.Knowing.{place_known}
use Rattle.xl_rounds.specs.declared.phase.Mode.TheVariants.{SwitchedLedger}
use Rattle.xl_rounds.specs.declared.heartbeat.HeartbeatKind.{HeartbeatKind}
use Rattle.xl_rounds.specs.declared.heartbeat.HeartbeatKind.TheVariants as kind
use Rattle.xl_rounds.specs.declared.heartbeat.Said.{Said}
use Rattle.xl_rounds.specs.Rounds.{Round, leave, accepted_round}
use Rattle.xl_rounds.specs.Proposals.{started_round}
use Rattle.xl_rounds.specs.Heartbeats.{HeartbeatReply, heartbeat}
use Rattle.xl_core.specs.declared.timer_answer.TimerAnswer.{TimerAnswer}
use Rattle.xl_core.specs.declared.timer_answer.TimerAnswer.TheVariants.{Nothing, Closed, Updated, Switched, NoRoom}
use Rattle.xl_core.specs.declared.item.Item.TheVariants.{Tx}
use Rattle.xl_core.specs.declared.refusal.Refusal.{Refusal}
use Rattle.xl_core.specs.Answers.{Done}
use Rattle.xl_core.specs.Building.{alone, Knowing, knowing_of, knowing_at}
use Rattle.xl_lists.specs.Lists.{TrustedList}
use Rattle.xl_core.specs.Node.{Node, Reply, TimerOutcome, Quiet, Ending, reply_with, refusing_reply, reply_unless, with_tx, tx_refusal, submitted_reply, chosen, seen_of, next_header, switch_outcome, built_outcome, kind_outcome, heartbeat_outcome, timer_outcome, key_refusal, relisted_reply, reporting_reply, with_list}

-- no ledger is forgotten, and the place is one of them
pub record Grows (before after : Ledgers) (place : ℕ) : Type 0 where
  pub more : length before.headers ≤ length after.headers
  pub within : place < length after.headers
  pub limit : after.limit ≡ before.limit

knowing_grows : (r : Ledgers) (h : Header) (o : Option ℕ) → o ≡ place_of r.headers (header_id h) → IfSome (knowing_at r h o) (λ k. Grows r k.ledgers k.place)
knowing_grows r h None is =
    cond_both (nat_le r.limit (length r.headers)) None (let k : Knowing = record { ledgers = with_header r h; place = length r.headers } in Some k) (λ o. IfSome o (λ k. Grows r k.ledgers k.place))
    (λ _. tt) (λ _. record { more = omega (arith, length-append r.headers (h ∷ [])); within = omega (arith, length-append r.headers (h ∷ [])); limit = refl })
knowing_grows r h (Some place) is = record { more = omega arith; within = place_known r.headers (header_id h) (Some place) is; limit = refl }

module _ (P : TimerOutcome → Type 0) (n : Node)
    (quiet : (r : Round) (told : TimerAnswer) (said : Option Said) → P (Quiet (record n { round = r }) told said))
    (ends : (ledgers : Ledgers) (r : Round) (said : Option Said) (h : Header) (place : ℕ) (moved_on : Bool) → Grows n.ledgers ledgers place →
    P (Ending (record n { ledgers = ledgers; round = r }) said h place moved_on)) where
  after_building : (r : Round) (said : Option Said) (moved_on : Bool) (o : Option Knowing) → IfSome o (λ k. Grows n.ledgers k.ledgers k.place) → P (built_outcome (record n { round = r }) said moved_on o)
  after_building r said moved_on None grows = quiet r (NoRoom n.ledgers.limit) said
  after_building r said moved_on (Some k) grows = ends k.ledgers (accepted_round (unwrap_or r.ready 0) r) said (next_header (record n { round = r })) k.place moved_on grows

  after_kind : (r : Round) (said : Option Said) (k : HeartbeatKind) → P (kind_outcome (record n { round = r }) said k)
  after_kind r said kind.Nothing = quiet r Nothing said
  after_kind r said kind.Closed = quiet r Closed said
  after_kind r said kind.Updated = quiet r Updated said
  after_kind r said (kind.Ready moved_on) =
      let h : Header = next_header (record n { round = r }) in
      after_building r said moved_on (knowing_of n.ledgers h) (knowing_grows n.ledgers h (place_of n.ledgers.headers (header_id h)) refl)

  -- so what holds in these two cases holds of every timer
  pub timing_by : P (timer_outcome n)
  timing_by =
      let reply : HeartbeatReply = heartbeat n.time (seen_of n) n.round in
      let ledgers = n.ledgers.headers in
      cond_both (chosen n == n.round.setting.previous) (heartbeat_outcome n reply) (switch_outcome n (chosen n)) P
      (λ _. after_kind reply.round reply.answer.said reply.answer.kind)
      (λ _. quiet (started_round ledgers (chosen n) SwitchedLedger n.time n.round) (Switched (seq_at ledgers (chosen n)) (id_at ledgers (chosen n))) (alone (leave n.time n.round)))

-- a transaction that is handed in is refused, or pending
pub submit_either : (P : Reply → Type 0) (n : Node) (tx : TxId) → ((why : Refusal) → P (refusing_reply n why)) → P (reply_with (with_tx n tx) Done (Tx tx ∷ [])) → P (submitted_reply n tx)
submit_either P n tx refuses takes = by (tx_refusal n tx)
  where
    by : (o : Option Refusal) → P (reply_unless n o (reply_with (with_tx n tx) Done (Tx tx ∷ [])))
    by None = takes
    by (Some why) = refuses why

-- a list is refused, or set
pub relist_either : (P : Reply → Type 0) (n : Node) (list : TrustedList) → ((why : Refusal) → P (refusing_reply n why)) → (key_refusal n list ≡ None → P (reporting_reply (with_list n list) Done None)) → P (relisted_reply n list)
relist_either P n list refuses sets = by (key_refusal n list) refl
  where
    by : (o : Option Refusal) → key_refusal n list ≡ o → P (reply_unless n o (reporting_reply (with_list n list) Done None))
    by None is = sets is
    by (Some why) is = refuses why
