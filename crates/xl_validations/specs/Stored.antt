-- How rows are stored, and what is counted. Source: what the code of this crate keeps.
use Rattle.std.specs.Prelude.{◌≡◌, ℕ, ◌+◌, ◌≤◌, Bool, List, length, Some, if◌then◌else◌}
use Rattle.xl_wire.specs.declared.validation.Validation.{Validation}
use Rattle.xl_validations.specs.declared.row.Row.{Row}
use Rattle.xl_validations.specs.declared.counted.Counted.{Counted}
use Rattle.xl_validations.specs.Rows.{is_full_of, count_full}

-- there are as many at most as a list may have members, and there is room for so many, here and beside
pub record IsRoomy (len capacity other : ℕ) : Type 0 where
  pub few : len ≤ 64
  pub room : 64 ≤ capacity
  pub beside : 64 ≤ other

-- so many of the rows hold a full validation of the sequence and id
abbrev pub IsCounted : List Row → Counted → Type 0
IsCounted rows last = last.count ≡ count_full last.seq last.id rows

-- one or none
abbrev pub one_if : Bool → ℕ
one_if b = if b then 1 else 0

-- the count before one of the rows took this validation, in place of one that was counted or not
abbrev pub IsCountedBut : List Row → Validation → Bool → Counted → Type 0
IsCountedBut rows v had last =
    last.count + one_if (is_full_of last.seq last.id (Some v)) ≡ count_full last.seq last.id rows + one_if had

pub record AreStored (rows : List Row) (capacity other : ℕ) (last : Counted) : Type 0 where
  pub roomy : IsRoomy (length rows) capacity other
  pub counted : IsCounted rows last
