-- What holds of every round, whatever comes.
-- Source: rippled's Consensus, whose rounds end in agreement and whose positions only get newer.
use Rattle.std.specs.Prelude.{◌≡◌, ◌⊎◌, ℕ, ◌+◌, ◌*◌, ◌<◌, ◌≤◌, false, List, Some, if◌then◌else◌}
use Rattle.xl_wire.specs.declared.proposal.Proposal.{Proposal}
use Rattle.xl_ledger.specs.declared.header.Header.{Header}
use Rattle.xl_rounds.specs.declared.phase.Mode.{Mode}
use Rattle.xl_rounds.specs.declared.heartbeat.Seen.{Seen}
use Rattle.xl_rounds.specs.declared.heartbeat.HeartbeatKind.TheVariants.{Ready}
use Rattle.xl_rounds.specs.Positions.{position_of, count, count_agreeing}
use Rattle.xl_rounds.specs.Rounds.{Round, is_proposing}
use Rattle.xl_rounds.specs.Proposals.{is_ours, is_past, with_proposal, later_of, started_round}
use Rattle.xl_rounds.specs.Heartbeats.{heartbeat}

-- the positions, ours among them if we propose
abbrev pub voices : Round → ℕ
voices r = count r.positions + (if is_proposing r.setting.mode then 1 else 0)

-- those of them that name our set
abbrev pub agreeing_voices : Round → ℕ
agreeing_voices r = count_agreeing r.positions + (if is_proposing r.setting.mode then 1 else 0)

-- nobody else has a position, or four fifths agree
abbrev pub IsAgreed : Round → Type 0
IsAgreed r = (count r.positions ≡ 0) ⊎ (voices r * 80 ≤ agreeing_voices r * 100)

-- A heartbeat that is ready, the members not having moved on, leaves a round that is agreed.
abbrev pub ReadyIsAgreed : Type 0
ReadyIsAgreed = (now : ℕ) (seen : Seen) (r : Round) →
    (heartbeat now seen r).answer.kind ≡ Ready false → IsAgreed (heartbeat now seen r).round

-- A proposal leaves a member's position, or takes it away, or puts a newer one in its place.
abbrev pub PositionsAreNewer : Type 0
PositionsAreNewer = (ledgers : List Header) (member : ℕ) (p : Proposal) (now : ℕ) (r : Round) (kept next : Proposal) →
    position_of r.positions member ≡ Some kept →
    position_of (with_proposal ledgers member p now r).positions member ≡ Some next →
    (next ≡ kept) ⊎ (kept.pseq < next.pseq)

-- a member's later proposal builds on another ledger than the round's, which isn't known, or is later
abbrev pub Waits : List Header → Round → ℕ → Type 0
Waits ledgers r member = (p : Proposal) → later_of r member ≡ Some p →
    (is_ours r p ≡ false) × (is_past ledgers r.setting.previous p.prev ≡ false)

-- After a start each member's does.
abbrev pub NoneWaitsInVain : Type 0
NoneWaitsInVain = (ledgers : List Header) (previous : ℕ) (mode : Mode) (now : ℕ) (r : Round) (member : ℕ) →
    1 ≤ member → member ≤ 64 →
    Waits ledgers (started_round ledgers previous mode now r) member
