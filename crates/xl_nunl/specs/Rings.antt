-- How what was heard is kept: a ring of 512 places for each member. Source: rippled's negative UNL; the numbers are this
-- profile's.
use Rattle.std.specs.Prelude.{◌≡◌, ℕ, ◌+◌, ◌-◌, ◌*◌, ◌%◌, ◌≤◌, Bool, List, [], ◌∷◌, ◌++◌, length, count_by, replicate, slice_index_or, slice_set, if◌then◌else◌}
use Rattle.std.specs.Prelude.{Some, None}
use Rattle.std.specs.declared.option.Option.{Option}
use Rattle.std.specs.List.{range_with_len}
use Rattle.xl_ledger.specs.declared.header.Header.{Header}
use Rattle.xl_ledger.specs.Chains.{seq_at, id_at}
use Rattle.xl_ledger.specs.Jumps.{ancestor_of}
use Rattle.xl_lists.specs.declared.said.SaidLedger.{SaidLedger}
use Rattle.xl_lists.specs.Lists.{is_outside}
use Rattle.xl_nunl.specs.Heard.{last_heard, names, score_of}

-- the place of a sequence in the ring of a member
abbrev pub place_of : ℕ → ℕ → ℕ
place_of m s = (m - 1) * 512 + s % 512

-- each place has the last that was heard there
abbrev pub Remembers : List (Option SaidLedger) → List SaidLedger → Type 0
Remembers places heard = (m s : ℕ) → 1 ≤ m → m ≤ 64 → slice_index_or places (place_of m s) None ≡ last_heard heard m s

-- nothing is kept yet
unfoldable pub nothing_kept : List (Option SaidLedger)
nothing_kept = replicate 32768 None

-- something more was heard; of a number that no member has nothing is kept
abbrev pub with_heard : List (Option SaidLedger) → SaidLedger → List (Option SaidLedger)
with_heard places x = if is_outside x.member then places else slice_set places (place_of x.member x.seq) (Some x)

-- the last that is kept of a member, among sequences that are alike
abbrev pub last_kept : List (Option SaidLedger) → ℕ → ℕ → Option SaidLedger
last_kept places m s = slice_index_or places (place_of m s) None

-- whether it names the ledger of this sequence on the flag ledger's chain
abbrev pub agrees_in : List Header → List (Option SaidLedger) → ℕ → ℕ → ℕ → Bool
agrees_in ledgers places m flag s = names (last_kept places m s) s (id_at ledgers (ancestor_of ledgers flag s))

-- for how many of the 256 sequences up to the flag ledger's it does
unfoldable pub score_in : List Header → List (Option SaidLedger) → ℕ → ℕ → ℕ
score_in ledgers places m flag = count_by (agrees_in ledgers places m flag) (range_with_len (seq_at ledgers flag - 255) 256)

-- what is kept has a place for each kind of sequence of each member, and there the last that was heard
pub record IsKept (places : List (Option SaidLedger)) (heard : List SaidLedger) : Type 0 where
  pub long : length places ≡ 32768
  pub last : Remembers places heard

-- The law of rings: from nothing on, what is kept has all that a score asks of what was heard.
pub record RingsAreEnough : Type 0 where
  pub begun : IsKept nothing_kept []
  pub goes_on : (places : List (Option SaidLedger)) (heard : List SaidLedger) (x : SaidLedger) → IsKept places heard
      → IsKept (with_heard places x) (heard ++ x ∷ [])
  pub scores : (ledgers : List Header) (places : List (Option SaidLedger)) (heard : List SaidLedger) (m flag : ℕ)
      → 1 ≤ m → m ≤ 64 → IsKept places heard → score_in ledgers places m flag ≡ score_of ledgers heard m flag
