-- The moments that the system's clock gives. Source: the XRP Ledger counts time from 2000-01-01 00:00:00 UTC on, which
-- is 946,684,800 seconds after 1970 began; the greatest moment is this profile's.
use Rattle.std.specs.Prelude.{ℕ, ◌-◌, ◌/◌, min}
use Rattle.xl_base.specs.Moments.{greatest_millis}
use Rattle.xl_tcp.specs.Numbers.{epoch_millis}

-- the moment at this many nanoseconds after 1970 began: whole milliseconds from 2000 on, 0 before, at most the greatest
abbrev pub moment_at : ℕ → ℕ
moment_at nanos = min greatest_millis (nanos / 1000000 - epoch_millis)
