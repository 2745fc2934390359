-- Rounded close times. Source: classical rippled.
use Rattle.std.specs.Prelude.{ℕ, ◌+◌, ◌-◌, ◌/◌, ◌%◌, ◌==◌, min, max, if◌then◌else◌}
use Rattle.xl_closetime.specs.Numbers.{last_second}

-- the nearest multiple of r, a half rounded up; 0 stays 0
abbrev pub round_close : ℕ → ℕ → ℕ
round_close t r = if t == 0 then 0 else min (t + r / 2 - (t + r / 2) % r) last_second

-- the rounded time, but after the prior one; 0 stays 0
abbrev pub effective : ℕ → ℕ → ℕ → ℕ
effective t r prior = if t == 0 then 0 else max (round_close t r) (min (prior + 1) last_second)
