-- Rolls: the one spelling of each. Source: this project's own layout.
use Rattle.std.specs.Prelude.{ℕ, ◌+◌, ◌*◌, ◌^◌, ◌<◌, ◌≤◌, List, [], ◌∷◌, ◌++◌, length}
use Rattle.std.specs.List.{flat_map}
use Rattle.byteorder.specs.Endian.{big_bytes}
use Rattle.xl_tags.specs.Macs.{mac}
use Rattle.xl_publish.specs.declared.roll.Roll.{Roll}

-- one member after the other, in four bytes each
abbrev pub member_bytes : List ℕ → List ℕ
member_bytes members = flat_map (λ m. big_bytes 4 m) members

-- the mark, the version, the publisher, the sequence, the two seconds, how many members there are, and the members
abbrev pub said_bytes : Roll → List ℕ
said_bytes r =
    (0x58 ∷ 0x50 ∷ 1 ∷ []) ++ big_bytes 4 r.publisher ++ big_bytes 4 r.seq ++ big_bytes 4 r.from ++ big_bytes 4 r.until
    ++ big_bytes 2 (length r.members) ++ member_bytes r.members

-- and then the tag of all that under the publisher's key
abbrev pub roll_bytes : List ℕ → Roll → List ℕ
roll_bytes key r = said_bytes r ++ mac key (said_bytes r)

-- how many bytes a roll of this many members has
abbrev pub length_of : ℕ → ℕ
length_of count = 53 + 4 * count

-- each member is above the one before, and at most 64
abbrev pub RisesFrom : ℕ → List ℕ → Type 0
RisesFrom before [] = Unit {0}
RisesFrom before (m ∷ ms) = (before < m) × (m ≤ 64) × RisesFrom m ms

-- what a right roll says
pub record IsRoll (r : Roll) : Type 0 where
  pub publisher : r.publisher < 2 ^ 32
  pub seq : r.seq < 2 ^ 32
  pub until : r.until < 2 ^ 32
  pub dates : r.from < r.until
  pub some : 1 ≤ length r.members
  pub most : length r.members ≤ 64
  pub members : RisesFrom 0 r.members
