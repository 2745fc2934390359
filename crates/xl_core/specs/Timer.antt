-- What a timer comes to. Source: rippled's NetworkOPs and Consensus, as this profile takes them.
use Rattle.std.specs.Prelude.{ℕ, ◌==◌, ◌&&◌, not, Bool, List, [], ◌∷◌, ◌++◌, unwrap_or, if◌then◌else◌}
use Rattle.std.specs.Prelude.{Some, None}
use Rattle.std.specs.declared.option.Option.{Option}
use Rattle.xl_validations.specs.Rows.{named}
use Rattle.xl_validations.specs.Votes.{finished, choose}
use Rattle.xl_ledger.specs.declared.header.Header.{Header}
use Rattle.xl_ledger.specs.Chains.{seq_at, id_at}
use Rattle.xl_ledger.specs.Registries.{Ledgers}
use Rattle.xl_rounds.specs.declared.phase.Mode.{Mode}
use Rattle.xl_rounds.specs.declared.phase.Mode.TheVariants.{SwitchedLedger}
use Rattle.xl_rounds.specs.declared.heartbeat.HeartbeatKind.{HeartbeatKind}
use Rattle.xl_rounds.specs.declared.heartbeat.HeartbeatKind.TheVariants as kind
use Rattle.xl_rounds.specs.declared.heartbeat.Said.{Said}
use Rattle.xl_rounds.specs.declared.heartbeat.Seen.{Seen}
use Rattle.xl_rounds.specs.Rounds.{is_proposing, leave, agreed, accepted_round}
use Rattle.xl_rounds.specs.Proposals.{started_round}
use Rattle.xl_rounds.specs.Heartbeats.{HeartbeatReply, heartbeat}
use Rattle.xl_core.specs.declared.timer_answer.TimerAnswer.{TimerAnswer}
use Rattle.xl_core.specs.declared.timer_answer.TimerAnswer.TheVariants.{Nothing, Closed, Updated, Switched, NoRoom, Built}
use Rattle.xl_core.specs.declared.item.Item.{Item}
use Rattle.xl_core.specs.declared.item.Item.TheVariants.{Header as HeaderItem}
use Rattle.xl_ledger.specs.Headers.{header_id}
use Rattle.xl_core.specs.Answers.{Beats, Done, refusal_in}
use Rattle.xl_core.specs.Building.{usual_mode, said_items, alone, next_by, Knowing, knowing_of, how_issued}
use Rattle.xl_core.specs.State.{Node, Reply, reply_with}
use Rattle.xl_core.specs.Issuing.{Save, asks_for, issuing_reply}

-- what it comes to, except for the save and the validation of a built ledger
pub data TimerOutcome : Type 0 where
  -- nothing was built; a position is said, or none
  Quiet : (n : Node) (told : TimerAnswer) (said : Option Said) → TimerOutcome
  -- the ledger of this header was built and accepted, at this place among the known ones; the members may have moved on
  Ending : (n : Node) (said : Option Said) (h : Header) (place : ℕ) (moved_on : Bool) → TimerOutcome

-- the ledger that the votes choose to go on with. The largest sequence issued is the kept number
abbrev pub chosen : Node → ℕ
chosen n = choose n.ledgers.headers n.rows n.round.setting.previous n.kept

-- a round starts on a ledger
abbrev pub with_new_round : Node → ℕ → Mode → Node
with_new_round n ledger mode = record n { round = started_round n.ledgers.headers ledger mode n.time n.round }

-- where another ledger is chosen the node leaves its round for one on that; a position by which it leaves is said
abbrev pub switch_outcome : Node → ℕ → TimerOutcome
switch_outcome n ledger =
    let ledgers = n.ledgers.headers in
    Quiet (with_new_round n ledger SwitchedLedger) (Switched (seq_at ledgers ledger) (id_at ledgers ledger))
    (alone (leave n.time n.round))

-- what the round is told of the validations
abbrev pub seen_of : Node → Seen
seen_of n = record {
  validated = named n.me (id_at n.ledgers.headers n.round.setting.previous) n.rows;
  finished = finished n.ledgers.headers n.rows n.round.setting.previous;
}

-- the header of the next ledger, once the round is ready
abbrev pub next_header : Node → Header
next_header n = next_by n.ledgers.headers n.round.setting.previous (agreed n.round)

-- the round accepts what it was ready for, and the ids of that leave the pending ones
abbrev pub with_accepted : Node → Ledgers → Node
with_accepted n ledgers = record n { ledgers = ledgers; round = accepted_round (unwrap_or n.round.ready 0) n.round }

-- the ledger is accepted for which the round is ready, if there is room for it; it is known then
abbrev pub built_outcome : Node → Option Said → Bool → Option Knowing → TimerOutcome
built_outcome n said moved_on None = Quiet n (NoRoom n.ledgers.limit) said
built_outcome n said moved_on (Some known) = Ending (with_accepted n known.ledgers) said (next_header n) known.place moved_on

-- what follows a heartbeat of the round, by which a position is said, or none
abbrev pub kind_outcome : Node → Option Said → HeartbeatKind → TimerOutcome
kind_outcome n said kind.Nothing = Quiet n Nothing said
kind_outcome n said kind.Closed = Quiet n Closed said
kind_outcome n said kind.Updated = Quiet n Updated said
kind_outcome n said (kind.Ready moved_on) = built_outcome n said moved_on (knowing_of n.ledgers (next_header n))

abbrev pub heartbeat_outcome : Node → HeartbeatReply → TimerOutcome
heartbeat_outcome n reply = kind_outcome (record n { round = reply.round }) reply.answer.said reply.answer.kind

-- the round goes on, or the node switches
abbrev pub timer_outcome : Node → TimerOutcome
timer_outcome n =
    if chosen n == n.round.setting.previous then heartbeat_outcome n (heartbeat n.time (seen_of n) n.round)
    else switch_outcome n (chosen n)

-- a validating node validates what it built, unless the members moved on without it
abbrev pub validates : Node → Bool → Bool
validates n moved_on = n.validating && not moved_on

-- the validation is full exactly if it proposes
abbrev pub validating_built : Node → Header → Bool → Save → Reply
validating_built n h moved_on save =
    if validates n moved_on then issuing_reply n h.seq (header_id h) (is_proposing n.round.setting.mode) save
    else reply_with n Done []

-- and then a round starts on the built ledger
abbrev pub after_built : Node → Header → ℕ → Bool → Save → Reply
after_built n h place moved_on save =
    let validated = validating_built n h moved_on save in
    record validated { node = with_new_round validated.node place (usual_mode n.validating) }

-- the header is sent, and then the validation
abbrev pub built_reply : List Item → Header → Bool → Reply → Reply
built_reply said h moved_on done = record done {
  answer = Beats (Built h.seq (header_id h) moved_on (how_issued (refusal_in done.answer) done.issued));
  items = said ++ HeaderItem (header_id h) ∷ done.items;
}

abbrev pub timer_reply : TimerOutcome → Save → Reply
timer_reply (Quiet n told said) save = reply_with n (Beats told) (said_items said)
timer_reply (Ending n said h place moved_on) save =
    built_reply (said_items said) h moved_on (after_built n h place moved_on save)

-- the save that it asks: that of the built ledger's sequence
abbrev pub asks_of : TimerOutcome → Option ℕ
asks_of (Quiet n told said) = None
asks_of (Ending n said h place moved_on) = if validates n moved_on then asks_for n h.seq else None
