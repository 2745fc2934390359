-- Members' votes, and the ledger that a node goes on with by them.
-- Source: rippled's Validations and LedgerTrie; the order of the lines of `choose` is this profile's.
use Rattle.std.specs.Prelude.{ℕ, ◌-◌, ◌==◌, nat_lt, List, filter_map, Option, Some, None, option_map, if◌then◌else◌}
use Rattle.std.specs.Option.{option_and_then}
use Rattle.xl_wire.specs.declared.validation.Validation.{Validation}
use Rattle.xl_ledger.specs.declared.header.Header.{Header}
use Rattle.xl_ledger.specs.declared.vote.Vote.{Vote}
use Rattle.xl_ledger.specs.Chains.{seq_at, place_of, parent_of}
use Rattle.xl_ledger.specs.Votes.{follows, is_on_chain, tip_of, branch_of, preferred_of}
use Rattle.xl_validations.specs.declared.row.Row.{Row}

-- the ledger, if it is of this sequence
abbrev pub if_of_sequence : List Header → ℕ → ℕ → Option ℕ
if_of_sequence ledgers seq ledger = if seq_at ledgers ledger == seq then Some ledger else None

-- the known ledger that a validation names, if that has its sequence
abbrev pub ledger_named : List Header → Option Validation → Option ℕ
ledger_named ledgers None = None
ledger_named ledgers (Some v) = option_and_then (if_of_sequence ledgers v.seq) (place_of ledgers v.id)

-- a vote of a member, if it is for a ledger
abbrev pub cast : ℕ → Option ℕ → Option Vote
cast member ledger = option_map (λ at. record { member = member; ledger = at }) ledger

-- the votes of the members whose current validations, full or partial, name known ledgers
abbrev pub votes_of : List Header → List Row → List Vote
votes_of ledgers rows = filter_map (λ row. cast row.member (ledger_named ledgers row.current)) rows

-- how many votes are for ledgers below this one
abbrev pub finished : List Header → List Row → ℕ → ℕ
finished ledgers rows ledger = branch_of ledgers (votes_of ledgers rows) ledger - tip_of (votes_of ledgers rows) ledger

-- the ledger that the votes prefer, if the largest sequence issued is this one
abbrev pub preferred : List Header → List Row → ℕ → Option ℕ
preferred ledgers rows largest = preferred_of ledgers (votes_of ledgers rows) largest

-- the ledger to go on with, if this one is preferred
abbrev pub choose_by : List Header → ℕ → Option ℕ → ℕ
choose_by ledgers current None = current
choose_by ledgers current (Some preferred) =
    if follows (parent_of ledgers preferred) current then current
    else if nat_lt (seq_at ledgers current) (seq_at ledgers preferred) then preferred
    else if is_on_chain ledgers preferred current then current
    else preferred

-- the ledger to go on with: a preferred one that isn't on the current one's chain, and doesn't follow it at once
abbrev pub choose : List Header → List Row → ℕ → ℕ → ℕ
choose ledgers rows current largest = choose_by ledgers current (preferred ledgers rows largest)
