-- Rings of keys: whose they are, and which key each other member shares with it. Source: this project's own.
use Rattle.std.specs.Prelude.{◌≡◌, ℕ, ◌-◌, ◌==◌, ◌||◌, List, length, map, replicate, Option, Some, None, slice_index_or, slice_set, if◌then◌else◌}
use Rattle.std.specs.List.{range_with_len}
use Rattle.xl_lists.specs.Lists.{is_outside}
use Rattle.xl_tags.specs.PairKeys.{pair_key_of}

-- a key, or none, for each of the members 1 to 64, in this order
pub record Ring : Type 0 where
  pub me : ℕ
  pub keys : List (Option (List ℕ))

-- the key that a number has: none outside 1 to 64
abbrev pub key_of : Ring → ℕ → Option (List ℕ)
key_of ring member = if member == 0 then None else slice_index_or ring.keys (member - 1) None

abbrev pub with_key : Ring → ℕ → List ℕ → Ring
with_key ring member key = record { me = ring.me; keys = slice_set ring.keys (member - 1) (Some key) }

-- what every ring keeps: it has a place for each member, and no key for its own
pub record IsRing (ring : Ring) : Type 0 where
  pub places : length ring.keys ≡ 64
  pub own : key_of ring ring.me ≡ None

-- the ring of a member that has no key yet
unfoldable pub no_keys : ℕ → Ring
no_keys me = record { me = me; keys = replicate 64 None }

-- the key that a schedule gives a pair of members, if they are two
abbrev pub schedule_key : ℕ → ℕ → Option (List ℕ)
schedule_key me member = if member == me || is_outside member then None else Some (pair_key_of me member)

-- the ring of a schedule's member
unfoldable pub schedule_ring : ℕ → Ring
schedule_ring me = record { me = me; keys = map (schedule_key me) (range_with_len 1 64) }
