-- Moments, and how long a validation is current.
-- Source: rippled's Validations; the numbers are this profile's.
use Rattle.std.specs.Prelude.{ℕ}

-- the greatest moment, in milliseconds
abbrev pub greatest_millis : ℕ
greatest_millis = 4000000000000

-- a validation is stale this many seconds after it was signed
abbrev pub past_secs : ℕ
past_secs = 180

-- it isn't current this many seconds before it was signed, or earlier
abbrev pub future_secs : ℕ
future_secs = 300
