-- What the code keeps of what was heard: rings of places. Source: what the code of this crate keeps.
use Rattle.std.specs.Prelude.{ℕ, List, map}
use Rattle.std.specs.Prelude.{Some, None}
use Rattle.std.specs.declared.option.Option.{Option}
use Rattle.std.specs.List.{range_with_len}
use Rattle.xl_ledger.specs.declared.header.Header.{Header}
use Rattle.xl_lists.specs.declared.said.SaidLedger.{SaidLedger}
use Rattle.xl_nunl.specs.Rings.{nothing_kept, score_in, with_heard}
use Rattle.xl_negative.specs.Keeping.{Keeping}

-- the rings of all members
abbrev pub Places : Type 0
Places = List (Option SaidLedger)

-- before anything was heard there need not be any
abbrev pub kept_in : Option Places → Places
kept_in None = nothing_kept
kept_in (Some places) = places

-- the scores of all numbers, from 1 on
unfoldable pub kept_scores : List Header → Places → ℕ → List ℕ
kept_scores ledgers places flag = map (λ m. score_in ledgers places m flag) (range_with_len 1 64)

-- rings, as what is kept
abbrev pub ring_keeping : Keeping Places
ring_keeping = record {
  nothing = nothing_kept;
  heard = with_heard;
  scores = kept_scores;
}
