-- Counts of faults, of whatever can fail. Source: this project's own.
use Rattle.std.specs.Prelude.{ℕ, ◌≤◌}
use Rattle.xl_base.specs.Counts.{one_more}

-- the count has risen, or stands where a count ends
abbrev pub Rose : ℕ → ℕ → Type 0
Rose before now = one_more before ≤ now
