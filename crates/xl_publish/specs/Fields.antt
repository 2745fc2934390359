-- What lies where in the bytes of a roll. Source: this project's own layout.
use Rattle.std.specs.Prelude.{◌≡◌, ℕ, zero, suc, ◌+◌, ◌*◌, ◌≤◌, List, [], ◌∷◌, length, take, drop}
use Rattle.byteorder.specs.Endian.{big_number}
use Rattle.xl_publish.specs.declared.roll.Roll.{Roll}
use Rattle.xl_publish.specs.Rolls.{length_of}

abbrev pub publisher_in : List ℕ → ℕ
publisher_in bytes = big_number 4 (drop 3 bytes)

abbrev pub seq_in : List ℕ → ℕ
seq_in bytes = big_number 4 (drop 7 bytes)

abbrev pub from_in : List ℕ → ℕ
from_in bytes = big_number 4 (drop 11 bytes)

abbrev pub until_in : List ℕ → ℕ
until_in bytes = big_number 4 (drop 15 bytes)

abbrev pub count_in : List ℕ → ℕ
count_in bytes = big_number 2 (drop 19 bytes)

-- this many numbers of four bytes that the bytes begin with
abbrev pub numbers_in : ℕ → List ℕ → List ℕ
numbers_in zero bytes = []
numbers_in (suc count) bytes = big_number 4 bytes ∷ numbers_in count (drop 4 bytes)

abbrev pub members_in : List ℕ → List ℕ
members_in bytes = numbers_in (count_in bytes) (drop 21 bytes)

-- all bytes of a roll but its tag
abbrev pub said_in : List ℕ → List ℕ
said_in bytes = take (21 + 4 * count_in bytes) bytes

abbrev pub tag_in : List ℕ → List ℕ
tag_in bytes = take 32 (drop (21 + 4 * count_in bytes) bytes)

-- what the fields say
abbrev pub roll_in : List ℕ → Roll
roll_in bytes = record {
  publisher = publisher_in bytes;
  seq = seq_in bytes;
  from = from_in bytes;
  until = until_in bytes;
  members = members_in bytes;
}

-- bytes of a roll's length, with 1 to 64 members
pub record IsShaped (bytes : List ℕ) : Type 0 where
  pub some : 1 ≤ count_in bytes
  pub most : count_in bytes ≤ 64
  pub long : length bytes ≡ length_of (count_in bytes)
