-- What a peer may cost. Source: this project's own, so that no peer spends what the others need.
use Rattle.std.specs.Prelude.{ℕ, ◌+◌, ◌-◌, ◌*◌, min}
use Rattle.xl_tcp.specs.declared.allowance.Allowance.{Allowance}

-- what is left at a moment: more with each millisecond, and never more than at first
abbrev pub left_at : Allowance → ℕ → ℕ
left_at a now = min (a.left + (now - a.at) * a.each_milli) a.most

-- a cost is taken off, or all that is left
abbrev pub after_cost : ℕ → Allowance → ℕ → Allowance
after_cost cost a now = record { most = a.most; each_milli = a.each_milli; left = left_at a now - cost; at = now }
