-- What a node heard of members since it opened, and the score of a member at a flag ledger. What was heard stands in a
-- list, in the order in which it came. Source: rippled's negative UNL; the numbers are this profile's.
use Rattle.std.specs.Prelude.{ℕ, ◌-◌, ◌%◌, ◌==◌, ◌&&◌, Bool, false, List, reverse, find, count_by, Option, Some, None}
use Rattle.std.specs.List.{range_with_len}
use Rattle.xl_base.specs.Ids.{same_id}
use Rattle.xl_base.specs.declared.ids.LedgerId.{LedgerId}
use Rattle.xl_ledger.specs.declared.header.Header.{Header}
use Rattle.xl_ledger.specs.Chains.{seq_at, id_at}
use Rattle.xl_ledger.specs.Jumps.{ancestor_of}
use Rattle.xl_lists.specs.declared.said.SaidLedger.{SaidLedger}

-- whether a member said something of a sequence like this one, modulo 512
abbrev pub is_alike : ℕ → ℕ → SaidLedger → Bool
is_alike m s x = x.member == m && x.seq % 512 == s % 512

-- the last that was heard of a member, among sequences that are alike
abbrev pub last_heard : List SaidLedger → ℕ → ℕ → Option SaidLedger
last_heard heard m s = find (is_alike m s) (reverse heard)

-- whether it is of this very sequence and names this ledger
abbrev pub names : Option SaidLedger → ℕ → LedgerId → Bool
names None s id = false
names (Some x) s id = x.seq == s && same_id x.id id

-- whether the last that was heard names the ledger of this sequence on the flag ledger's chain
abbrev pub agrees : List Header → List SaidLedger → ℕ → ℕ → ℕ → Bool
agrees ledgers heard m flag s = names (last_heard heard m s) s (id_at ledgers (ancestor_of ledgers flag s))

-- for how many of the 256 sequences up to the flag ledger's it does
unfoldable pub score_of : List Header → List SaidLedger → ℕ → ℕ → ℕ
score_of ledgers heard m flag = count_by (agrees ledgers heard m flag) (range_with_len (seq_at ledgers flag - 255) 256)
