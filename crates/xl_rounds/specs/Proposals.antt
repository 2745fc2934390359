-- Members' proposals, and those that wait for a later ledger.
-- Source: classical rippled's Consensus; the order of the lines is this profile's.
use Rattle.std.specs.Prelude.{ℕ, zero, suc, ◌-◌, ◌/◌, ◌==◌, ◌&&◌, not, nat_le, Bool, true, false, List, [], ◌∷◌, slice_index_or, Option, Some, None, Result, Ok, Err, if◌then◌else◌}
use Rattle.xl_base.specs.Ids.{same_id}
use Rattle.xl_base.specs.declared.ids.LedgerId.{LedgerId}
use Rattle.xl_wire.specs.declared.proposal.Proposal.{Proposal}
use Rattle.xl_ledger.specs.declared.header.Header.{Header}
use Rattle.xl_ledger.specs.Chains.{seq_at, place_of}
use Rattle.xl_rounds.specs.declared.phase.Mode.{Mode}
use Rattle.xl_rounds.specs.declared.placed.Placed.{Placed}
use Rattle.xl_rounds.specs.declared.placed.Placed.TheVariants.{Position, Later, Gone}
use Rattle.xl_rounds.specs.declared.refusal.RoundRefusal.{RoundRefusal}
use Rattle.xl_rounds.specs.declared.refusal.RoundRefusal.TheVariants.{WrongPrev, OldPosition, Left, StaleProposal}
use Rattle.xl_rounds.specs.Lines.{first_line}
use Rattle.xl_rounds.specs.Numbers.{leaving}
use Rattle.xl_rounds.specs.Positions.{with_at, position_of, with_position, is_old}
use Rattle.xl_rounds.specs.Settings.{setting_on}
use Rattle.xl_rounds.specs.Rounds.{Round, on_ledger}

-- a ledger is known, and not later than another
abbrev pub is_past_at : List Header → ℕ → Option ℕ → Bool
is_past_at ledgers previous None = false
is_past_at ledgers previous (Some place) = nat_le (seq_at ledgers place) (seq_at ledgers previous)

abbrev pub is_past : List Header → ℕ → LedgerId → Bool
is_past ledgers previous id = is_past_at ledgers previous (place_of ledgers id)

-- a proposal builds on the round's ledger
abbrev pub is_ours : Round → Proposal → Bool
is_ours r p = same_id p.prev r.setting.previous_id

-- the propose sequence isn't above that of the member's position, if there is one
abbrev pub is_repeated : ℕ → Option Proposal → Bool
is_repeated sequence None = false
is_repeated sequence (Some kept) = nat_le sequence kept.pseq

abbrev pub sequence_of : Option Proposal → ℕ
sequence_of None = 0
sequence_of (Some kept) = kept.pseq

abbrev pub has_left : Round → ℕ → Bool
has_left r member = slice_index_or r.left (member - 1) false

-- the answer to a proposal on our ledger
abbrev pub answer_here : Round → ℕ → Proposal → ℕ → Result Placed RoundRefusal
answer_here r member p now = first_line (
    -- it is no newer than the member's position
    (
      is_repeated p.pseq (position_of r.positions member),
      Err (OldPosition (sequence_of (position_of r.positions member))),
    )
    -- the member has left
    ∷ (has_left r member, Err (Left member))
    -- it is old
    ∷ (is_old now p, Err (StaleProposal now))
    -- the member leaves
    ∷ (p.pseq == leaving, Ok Gone)
    ∷ []) (Ok Position)

-- the answer to a proposal
abbrev pub answer : List Header → Round → ℕ → Proposal → ℕ → Result Placed RoundRefusal
answer ledgers r member p now = first_line (
    -- it builds on another ledger that is known, and not later than ours
    (not (is_ours r p) && is_past ledgers r.setting.previous p.prev, Err (WrongPrev r.setting.previous_id))
    -- it builds on a later or an unknown one
    ∷ (not (is_ours r p), Ok Later)
    ∷ []) (answer_here r member p now)

-- what becomes of the round by an answer
abbrev pub with_answer : Result Placed RoundRefusal → ℕ → Proposal → Round → Round
with_answer (Ok Position) member p r = record r { positions = with_position member (Some p) r.positions }
with_answer (Ok Later) member p r = record r { later = with_at member (Some p) r.later }
with_answer (Ok Gone) member p r = record r {
  positions = with_position member None r.positions;
  left = with_at member true r.left;
}
with_answer (Err why) member p r = r

abbrev pub with_proposal : List Header → ℕ → Proposal → ℕ → Round → Round
with_proposal ledgers member p now r = with_answer (answer ledgers r member p now) member p r

-- a member's later proposal on the round's ledger is taken out and handed to the rule; one on a ledger that is known,
-- and not later, is dropped
abbrev pub without_later : ℕ → Round → Round
without_later member r = record r { later = with_at member None r.later }

abbrev pub with_handed : List Header → ℕ → Option Proposal → ℕ → Round → Round
with_handed ledgers member None now r = r
with_handed ledgers member (Some p) now r =
    if is_ours r p then with_proposal ledgers member p now (without_later member r)
    else (if is_past ledgers r.setting.previous p.prev then without_later member r else r)

abbrev pub later_of : Round → ℕ → Option Proposal
later_of r member = slice_index_or r.later (member - 1) None

-- so for the first n members, by rising number
unfoldable pub with_all_handed : List Header → ℕ → ℕ → Round → Round
with_all_handed ledgers zero now r = r
with_all_handed ledgers (suc n) now r =
    let before = with_all_handed ledgers n now r in with_handed ledgers (suc n) (later_of before (suc n)) now before

-- a round starts on a ledger, at a moment
abbrev pub started_round : List Header → ℕ → Mode → ℕ → Round → Round
started_round ledgers previous mode now r =
    with_all_handed ledgers 64 (now / 1000) (on_ledger (setting_on ledgers previous mode now) r)
