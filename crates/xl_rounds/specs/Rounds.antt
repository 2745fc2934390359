-- A round: what it is on, how far it has come, what the members propose in it, and what is kept for later.
-- Source: Chase and MacBrough, "Analysis of the XRP Ledger Consensus Protocol" (2018); classical rippled's Consensus.
-- The order of the lines is this profile's.
use Rattle.std.specs.Prelude.{ℕ, ◌/◌, Bool, true, false, List, [], replicate, Option, Some, None, if◌then◌else◌}
use Rattle.xl_base.specs.Sets.{set_id_of}
use Rattle.xl_base.specs.declared.ids.TxId.{TxId}
use Rattle.xl_wire.specs.declared.proposal.Proposal.{Proposal}
use Rattle.xl_ledger.specs.declared.header.Header.{Header}
use Rattle.xl_disputes.specs.Rising.{with_tx}
use Rattle.xl_rounds.specs.declared.phase.Mode.{Mode}
use Rattle.xl_rounds.specs.declared.phase.Mode.TheVariants.{Proposing, Observing, SwitchedLedger}
use Rattle.xl_rounds.specs.declared.phase.Phase.{Phase}
use Rattle.xl_rounds.specs.declared.phase.Phase.TheVariants.{Open, Establish, Accepted}
use Rattle.xl_rounds.specs.declared.setting.Setting.{Setting}
use Rattle.xl_rounds.specs.declared.setting.Former.{Former}
use Rattle.xl_rounds.specs.declared.setting.Stance.{Stance}
use Rattle.xl_rounds.specs.declared.heartbeat.Agreed.{Agreed}
use Rattle.xl_rounds.specs.Numbers.{first_former_ms, leaving}
use Rattle.xl_rounds.specs.Settings.{setting_on}
use Rattle.xl_rounds.specs.Positions.{Positions, nowhere, no_positions, without_positions, with_held, count}
use Rattle.xl_rounds.specs.Pending.{without_accepted}

pub record Round : Type 0 where
  pub setting : Setting
  pub former : Former
  pub phase : Phase
  pub stance : Stance
  -- how long the round had taken at the last heartbeat, if that was ready, and nothing was accepted or started since
  pub ready : Option ℕ
  pub positions : Positions
  -- the members that left this round
  pub left : List Bool
  -- the proposals on later ledgers
  pub later : List (Option Proposal)
  pub pending : List TxId

abbrev pub nobody : List Bool
nobody = replicate 64 false

abbrev pub is_proposing : Mode → Bool
is_proposing Proposing = true
is_proposing Observing = false
is_proposing SwitchedLedger = false

-- no position was taken yet
abbrev pub no_stance : Stance
no_stance = record { closed = 0; propose_sequence = 0; close = 0; time = 0 }

-- a node's first round
abbrev pub first_round : List Header → ℕ → Mode → ℕ → Round
first_round ledgers root mode now = record {
  setting = setting_on ledgers root mode now;
  former = record { round_ms = first_former_ms; proposers = 0 };
  phase = Open;
  stance = no_stance;
  ready = None;
  positions = no_positions [];
  left = nobody;
  later = nowhere;
  pending = [];
}

-- a round on a ledger: no member has a position, and none has left. Our set, the held ones and the pending ids stay
abbrev pub on_ledger : Setting → Round → Round
on_ledger setting r = record r {
  setting = setting;
  phase = Open;
  ready = None;
  positions = without_positions r.positions;
  left = nobody;
}

-- our own position
abbrev pub our_position : Round → Proposal
our_position r = record {
  prev = r.setting.previous_id;
  set = set_id_of r.positions.own;
  pseq = r.stance.propose_sequence;
  close = r.stance.close;
  time = r.stance.time;
}

-- the position by which we leave the round
abbrev pub bow_out : ℕ → Round → Proposal
bow_out now r = record (our_position r) { pseq = leaving; time = now / 1000 }

abbrev pub is_establish : Phase → Bool
is_establish Open = false
is_establish Establish = true
is_establish Accepted = false

-- we leave if we have a position that we proposed
abbrev pub leave : ℕ → Round → Option Proposal
leave now r =
    if is_proposing r.setting.mode then (if is_establish r.phase then Some (bow_out now r) else None) else None

abbrev pub with_pending : TxId → Round → Round
with_pending tx r = record r { pending = with_tx tx r.pending }

abbrev pub hold : ℕ → List TxId → Round → Round
hold member set r = record r { positions = with_held member set r.positions }

-- what the round agreed on
abbrev pub agreed : Round → Agreed
agreed r = record { set = set_id_of r.positions.own; close = r.stance.close; resolution = r.setting.resolution }

-- the ledger is accepted that the round was ready for, after so long
abbrev pub accepted_round : ℕ → Round → Round
accepted_round round_ms r = record r {
  phase = Accepted;
  ready = None;
  former = record { round_ms = round_ms; proposers = count r.positions };
  pending = without_accepted r.positions.own r.pending;
}
