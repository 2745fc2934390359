-- What a heartbeat does to a round, in each phase.
-- Source: classical rippled's Consensus; the order of the lines is this profile's.
use Rattle.std.specs.Prelude.{ℕ, ◌+◌, ◌-◌, ◌*◌, ◌/◌, ◌==◌, ◌||◌, not, min, max, nat_lt, nat_le, Bool, true, false, List, length, Option, Some, None, if◌then◌else◌}
use Rattle.std.specs.Cmp.Lexicographic.{pointwise}
use Rattle.std.specs.Str.{bytes_eq}
use Rattle.xl_base.specs.declared.ids.TxId.{TxId}
use Rattle.xl_disputes.specs.Votes.{threshold}
use Rattle.xl_closetime.specs.Rounding.{round_close}
use Rattle.xl_closetime.specs.Choices.{choose_close}
use Rattle.xl_closetime.specs.declared.choice.Choice.{Choice}
use Rattle.xl_rounds.specs.declared.phase.Phase.{Phase}
use Rattle.xl_rounds.specs.declared.phase.Phase.TheVariants.{Open, Establish, Accepted}
use Rattle.xl_rounds.specs.declared.setting.Stance.{Stance}
use Rattle.xl_rounds.specs.declared.setting.Former.{Former}
use Rattle.xl_rounds.specs.declared.closing.Waiting.{Waiting}
use Rattle.xl_rounds.specs.declared.agreement.Tally.{Tally}
use Rattle.xl_rounds.specs.declared.agreement.Consensus.{Consensus}
use Rattle.xl_rounds.specs.declared.agreement.Consensus.TheVariants.{No, Yes, MovedOn}
use Rattle.xl_rounds.specs.declared.decision.Decision.{Decision}
use Rattle.xl_rounds.specs.declared.heartbeat.Seen.{Seen}
use Rattle.xl_rounds.specs.declared.heartbeat.Said.{Said}
use Rattle.xl_rounds.specs.declared.heartbeat.HeartbeatKind.{HeartbeatKind}
use Rattle.xl_rounds.specs.declared.heartbeat.HeartbeatKind.TheVariants.{Nothing, Closed, Updated, Ready}
use Rattle.xl_rounds.specs.declared.heartbeat.Heartbeat.{Heartbeat}
use Rattle.xl_rounds.specs.Numbers.{least_ms, least_former_ms, renewed_secs, last_sequence}
use Rattle.xl_rounds.specs.Closing.{should_close}
use Rattle.xl_rounds.specs.Agreement.{consensus}
use Rattle.xl_rounds.specs.Positions.{Positions, with_own, without_old, count, next_set, close_times, count_agreeing}
use Rattle.xl_rounds.specs.Rounds.{Round, is_proposing, our_position}

abbrev pub is_ready : HeartbeatKind → Bool
is_ready Nothing = false
is_ready Closed = false
is_ready Updated = false
is_ready (Ready moved_on) = true

-- the round after a heartbeat, and what the heartbeat tells
pub record HeartbeatReply : Type 0 where
  pub round : Round
  pub answer : Heartbeat

-- nothing happens
abbrev pub quiet_reply : Round → HeartbeatReply
quiet_reply r = record { round = record r { ready = None }; answer = record { kind = Nothing; said = None } }

-- if we propose, our position is sent, with our set before it or without
abbrev pub said_of : Round → Bool → Option Said
said_of r with_set =
    if is_proposing r.setting.mode then Some (record { proposal = our_position r; with_set = with_set }) else None

-- ---- open

abbrev pub waiting_of : Round → ℕ → ℕ → Waiting
waiting_of r now validated = record {
  previous_ms = r.former.round_ms;
  elapsed = now - r.setting.started;
  closed = count r.positions;
  validated = validated;
  previous_proposers = r.former.proposers;
  pending = length r.pending;
}

-- the pending ids are our set, and our position is the first, at this second
abbrev pub closed_at : ℕ → Round → Round
closed_at now r = record r {
  phase = Establish;
  ready = None;
  stance = record { closed = now; propose_sequence = 0; close = now / 1000; time = now / 1000 };
  positions = with_own r.pending r.positions;
}

abbrev pub closed_beat : Round → HeartbeatReply
closed_beat r = record { round = r; answer = record { kind = Closed; said = said_of r true } }

abbrev pub open_beat : ℕ → ℕ → Round → HeartbeatReply
open_beat now validated r = if should_close (waiting_of r now validated) then closed_beat (closed_at now r) else quiet_reply r

-- ---- establish

-- how long the round has taken, in percent of the previous one
abbrev pub percent_of : Former → ℕ → ℕ
percent_of former round_ms = round_ms * 100 / max former.round_ms least_former_ms

-- the threshold of that percent
abbrev pub needed_votes : Round → ℕ → ℕ
needed_votes r round_ms = threshold (percent_of r.former round_ms)

-- whether two sets are the same
abbrev pub is_same_set : List TxId → List TxId → Bool
is_same_set a b = pointwise (λ (x y : TxId). bytes_eq x.0 y.0) a b

-- the first line: old positions go
abbrev pub kept_positions : Round → ℕ → Positions
kept_positions r second = without_old second r.positions

-- the second line: the votes decide our next set, and the close times the choice among them
abbrev pub next_own : Round → ℕ → ℕ → List TxId
next_own r round_ms second = next_set (needed_votes r round_ms) (is_proposing r.setting.mode) (kept_positions r second)

abbrev pub after_vote : Round → ℕ → ℕ → Round
after_vote r round_ms second = record r { positions = with_own (next_own r round_ms second) (kept_positions r second) }

abbrev pub chosen_close : Round → ℕ → ℕ → Choice
chosen_close r round_ms second =
    choose_close (close_times (kept_positions r second)) r.stance.close (is_proposing r.setting.mode)
    (needed_votes r round_ms) r.setting.resolution

abbrev pub decision : Round → ℕ → ℕ → Decision
decision r round_ms second = record {
  changed = not (is_same_set (next_own r round_ms second) r.positions.own);
  choice = chosen_close r round_ms second;
}

-- the third line: our position is renewed if our set or the close time changed, or once it has aged
abbrev pub is_renewed : Round → ℕ → Decision → Bool
is_renewed r second d =
    d.changed || not (d.choice.close == round_close r.stance.close r.setting.resolution)
    || nat_le r.stance.time (second - renewed_secs)

abbrev pub renewed_stance : ℕ → ℕ → Stance → Stance
renewed_stance close second s = record {
  closed = s.closed;
  propose_sequence = min (s.propose_sequence + 1) last_sequence;
  close = close;
  time = second;
}

abbrev pub with_new_position : ℕ → ℕ → Round → Round
with_new_position close second r = record r { stance = renewed_stance close second r.stance }

abbrev pub after_third : Round → ℕ → Decision → Round
after_third r second d = if is_renewed r second d then with_new_position d.choice.close second r else r

abbrev pub said_in_third : Round → ℕ → Decision → Option Said
said_in_third r second d =
    if is_renewed r second d then said_of (with_new_position d.choice.close second r) d.changed else None

-- the fourth line
abbrev pub tally : Round → ℕ → ℕ → Tally
tally r round_ms finished = record {
  round_ms = round_ms;
  previous_ms = r.former.round_ms;
  positions = count r.positions;
  previous_proposers = r.former.proposers;
  agree = count_agreeing r.positions + (if is_proposing r.setting.mode then 1 else 0);
  total = count r.positions + (if is_proposing r.setting.mode then 1 else 0);
  finished = finished;
}

-- the fifth line: the ledger is accepted if there is consensus, and agreement on the close time
abbrev pub ready_kind : Consensus → Option HeartbeatKind
ready_kind No = None
ready_kind Yes = Some (Ready false)
ready_kind MovedOn = Some (Ready true)

abbrev pub outcome : Consensus → Bool → Option HeartbeatKind
outcome c agreed = if agreed then ready_kind c else None

-- what a heartbeat tells and what the round remembers of it
abbrev pub kind_of : Option HeartbeatKind → Bool → HeartbeatKind
kind_of None is_new = if is_new then Updated else Nothing
kind_of (Some ready) is_new = ready

abbrev pub ready_after : Option HeartbeatKind → ℕ → Option ℕ
ready_after None round_ms = None
ready_after (Some ready) round_ms = Some round_ms

abbrev pub concluding_reply : Round → ℕ → Option HeartbeatKind → Bool → Option Said → HeartbeatReply
concluding_reply r round_ms reached is_new said = record {
  round = record r { ready = ready_after reached round_ms };
  answer = record { kind = kind_of reached is_new; said = said };
}

-- lines 3 to 5, once lines 1 and 2 have decided
abbrev pub established_by : Decision → ℕ → ℕ → ℕ → Round → HeartbeatReply
established_by d round_ms second finished r = concluding_reply (after_third r second d) round_ms
    (outcome (consensus (tally (after_third r second d) round_ms finished)) d.choice.agreed)
    (is_renewed r second d) (said_in_third r second d)

abbrev pub establish_reply : ℕ → ℕ → ℕ → Round → HeartbeatReply
establish_reply round_ms second finished r =
    established_by (decision r round_ms second) round_ms second finished (after_vote r round_ms second)

abbrev pub establish_beat : ℕ → ℕ → Round → HeartbeatReply
establish_beat now finished r =
    if nat_lt (now - r.stance.closed) least_ms then quiet_reply r else establish_reply (now - r.stance.closed) (now / 1000) finished r

-- ---- any

abbrev pub beat_in : Phase → ℕ → Seen → Round → HeartbeatReply
beat_in Open now seen r = open_beat now seen.validated r
beat_in Establish now seen r = establish_beat now seen.finished r
beat_in Accepted now seen r = quiet_reply r

abbrev pub heartbeat : ℕ → Seen → Round → HeartbeatReply
heartbeat now seen r = beat_in r.phase now seen r
