-- The moments that a clock may give which has started. Source: this project's own: the time of day is read once, and
-- from then on only grows.
use Rattle.std.specs.Prelude.{ℕ, ◌&&◌, nat_le, Bool, Option, Some, None}
use Rattle.std.specs.Duration.{as_nanos}
use Rattle.xl_base.specs.Moments.{greatest_millis}
use Rattle.xl_tcp.specs.declared.clock.Start.{Start}
use Rattle.xl_tcp.specs.Moments.{moment_at}

-- the moment at which it started, or 0 where a clock couldn't be read then
abbrev pub started_at : Option Start → ℕ
started_at None = 0
started_at (Some start) = moment_at (as_nanos start.since_1970)

-- none before that, and none after the greatest
abbrev pub is_moment_since : Option Start → ℕ → Bool
is_moment_since start moment = nat_le (started_at start) moment && nat_le moment greatest_millis
