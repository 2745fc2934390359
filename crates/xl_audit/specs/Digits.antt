-- A digit, and a pair of them. Source: what the code of this crate relies on.
use Rattle.std.specs.Prelude.{◌≡◌, ℕ, ◌<◌, ◌/◌, ◌%◌, true, Ok, Some, slice_index}
use Rattle.hex.specs.Hex.{hex_digit_value, lower_digits, pair_value}
use Rattle.xl_audit.specs.Tokens.{is_lower_digit}

-- a lower-case digit has this value
abbrev pub IsValueOf : ℕ → ℕ → Type 0
IsValueOf c value = is_lower_digit c ≡ true → (hex_digit_value c ≡ Some value) × (value < 16)

-- a pair of lower-case digits stands for this byte
abbrev pub IsByteOf : ℕ → ℕ → ℕ → Type 0
IsByteOf high low byte =
    is_lower_digit high ≡ true → is_lower_digit low ≡ true → (i : ℕ) → pair_value high low i ≡ Ok byte

-- the lower-case digit of a value
abbrev pub lower_digit : ℕ → ℕ
lower_digit value = slice_index lower_digits value

-- these are the digits of a byte
abbrev pub IsDigitsOf : ℕ → ℕ → ℕ → Type 0
IsDigitsOf byte high low = (high ≡ lower_digit (byte / 16)) × (low ≡ lower_digit (byte % 16))
