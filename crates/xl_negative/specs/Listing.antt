-- All that was heard, as a list in the order in which it came. Source: rippled's negative UNL; the numbers are this
-- profile's.
use Rattle.std.specs.Prelude.{ℕ, List, [], ◌∷◌, ◌++◌, map}
use Rattle.std.specs.List.{range_with_len}
use Rattle.xl_ledger.specs.declared.header.Header.{Header}
use Rattle.xl_lists.specs.declared.said.SaidLedger.{SaidLedger}
use Rattle.xl_nunl.specs.Heard.{score_of}
use Rattle.xl_negative.specs.Keeping.{Keeping}

-- the scores of all numbers, from 1 on
unfoldable pub scores_of : List Header → List SaidLedger → ℕ → List ℕ
scores_of ledgers heard flag = map (λ m. score_of ledgers heard m flag) (range_with_len 1 64)

-- the list, as what is kept
abbrev pub list_keeping : Keeping (List SaidLedger)
list_keeping = record {
  nothing = [];
  heard = λ heard said. heard ++ said ∷ [];
  scores = scores_of;
}
