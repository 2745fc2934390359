-- Rows in a pool, and the order of their names. Source: what the code of this crate keeps. No public clause cites this
-- file.
use Rattle.std.specs.Prelude.{◌≡◌, ℕ, ◌+◌, ◌≤◌, List, [], length, map, filter, take, drop, All, Option, Some, None, unwrap_or, if◌then◌else◌}
use Rattle.xl_pool.specs.Pools.{Slot, get, live}
use Rattle.xl_pool.specs.declared.name.Name.{Name}
use Rattle.xl_disputes.specs.declared.rows.Row.{Row}
use Rattle.xl_disputes.specs.Tallies.{no_tally}
use Rattle.xl_disputes.specs.Rows.{is_held}

-- what stands for the row of a name that has none
abbrev pub no_row : Row
no_row = record { id = record { 0 = [] }; tally = no_tally }

abbrev pub row_of : List (Slot Row) → Name → Row
row_of pool name = unwrap_or (get pool name) no_row

abbrev pub rows_of : List (Slot Row) → List Name → List Row
rows_of pool order = map (row_of pool) order

-- a row, unless its id is in no set
abbrev pub if_held : Row → Option Row
if_held row = if is_held row then Some row else None

-- each name has a row, and there are no others
pub record IsPooled (pool : List (Slot Row)) (order : List Name) (room : ℕ) : Type 0 where
  pub slots : length pool ≡ 16640
  pub count : live pool ≡ length order
  pub there : All (λ name. get pool name ≡ Some (row_of pool name)) order
  pub roomy : 16640 ≤ room

-- of the first i rows those whose id is in no set are given back
pub record IsSwept (old new : List (Slot Row)) (order : List Name) (i : ℕ) : Type 0 where
  pub front : All (λ name. get new name ≡ if_held (row_of old name)) (take i order)
  pub back : All (λ name. get new name ≡ get old name) (drop i order)
  pub slots : length new ≡ length old
  pub count : live new + i ≡ live old + length (filter is_held (take i (rows_of old order)))
