-- Why bytes aren't taken as a roll: the first cause that holds. Source: this project's own layout, and the order in
-- which its fields are tested.
use Rattle.std.specs.Prelude.{◌≡◌, ℕ, ◌+◌, ◌-◌, ◌≤◌, ◌==◌, ◌&&◌, not, nat_lt, nat_le, Bool, List, [], ◌∷◌, length, slice_index, slice_index_or, Option, Some, None, option_map, bytes_eq, if◌then◌else◌}
use Rattle.xl_base.specs.Refusals.{refused_if, first_of}
use Rattle.xl_tags.specs.Macs.{mac}
use Rattle.xl_publish.specs.declared.refusal.RollRefusal.{RollRefusal}
use Rattle.xl_publish.specs.declared.refusal.RollRefusal.TheVariants.{Magic, Version, Count, Short, Long, Unknown, BadTag, Member, Dates}
use Rattle.xl_publish.specs.declared.roll.Roll.{Roll}
use Rattle.xl_publish.specs.Rolls.{IsRoll, roll_bytes, length_of}
use Rattle.xl_publish.specs.Fields.{publisher_in, from_in, until_in, count_in, members_in, said_in, tag_in}

-- the byte at this place is there, and isn't the wanted one
abbrev pub differs : List ℕ → ℕ → ℕ → Bool
differs bytes place wanted = nat_lt place (length bytes) && not (slice_index bytes place == wanted)

-- 1 to 64 members
abbrev pub is_count : ℕ → Bool
is_count count = nat_le 1 count && nat_le count 64

-- how many bytes are wanted: those up to the end of the count, and once they are there those of the roll
abbrev pub wanted : List ℕ → ℕ
wanted bytes = if nat_lt (length bytes) 21 then 21 else length_of (count_in bytes)

-- the causes that need no key
abbrev pub shape_refusal : List ℕ → Option RollRefusal
shape_refusal bytes = first_of (
    refused_if (differs bytes 0 0x58) (Magic 0)
    ∷ refused_if (differs bytes 1 0x50) (Magic 1)
    ∷ refused_if (differs bytes 2 1) (Version (slice_index bytes 2))
    ∷ refused_if (nat_le 21 (length bytes) && not (is_count (count_in bytes))) (Count (count_in bytes))
    ∷ refused_if (nat_lt (length bytes) (wanted bytes)) (Short (wanted bytes - length bytes))
    ∷ refused_if (nat_lt (wanted bytes) (length bytes)) (Long (length bytes - wanted bytes))
    ∷ [])

-- the numbers of publishers
abbrev pub IsPublisher : ℕ → Type 0
IsPublisher publisher = (1 ≤ publisher) × (publisher ≤ 16)

-- what stands at the place of a publisher, among the places of the publishers 1 to 16: nothing for other numbers
abbrev pub of_publisher : List (Option (List ℕ)) → ℕ → Option (List ℕ)
of_publisher places publisher = if publisher == 0 then None else slice_index_or places (publisher - 1) None

-- the tag under the publisher's key
abbrev pub tag_refusal : Option (List ℕ) → List ℕ → Option RollRefusal
tag_refusal None bytes = Some (Unknown (publisher_in bytes))
tag_refusal (Some key) bytes =
    refused_if (not (bytes_eq (tag_in bytes) (mac key (said_in bytes))))
    (BadTag (tag_in bytes) (mac key (said_in bytes)))

-- whether a member is above the one before, and at most 64
abbrev pub may_follow : ℕ → ℕ → Bool
may_follow before m = nat_lt before m && nat_le m 64

-- the place of the first member that may not follow the one before; before the first stands 0
abbrev pub first_wrong : ℕ → ℕ → List ℕ → Option ℕ
first_wrong place before [] = None
first_wrong place before (m ∷ ms) = if may_follow before m then first_wrong (place + 1) m ms else Some place

-- what is said
abbrev pub said_refusal : List ℕ → Option RollRefusal
said_refusal bytes = first_of (
    option_map Member (first_wrong 0 0 (members_in bytes))
    ∷ refused_if (not (nat_lt (from_in bytes) (until_in bytes))) (Dates (from_in bytes) (until_in bytes))
    ∷ [])

-- the first cause that holds, where the publishers have these keys
abbrev pub refusal_of : List (Option (List ℕ)) → List ℕ → Option RollRefusal
refusal_of keys bytes = first_of (
    shape_refusal bytes ∷ tag_refusal (of_publisher keys (publisher_in bytes)) bytes ∷ said_refusal bytes ∷ [])

-- these bytes, all of them, spell the roll under the key of its publisher
pub record IsRight (keys : List (Option (List ℕ))) (r : Roll) (bytes : List ℕ) : Type 0 where
  pub key : List ℕ
  pub keyed : of_publisher keys r.publisher ≡ Some key
  pub fits : IsRoll r
  pub spelling : bytes ≡ roll_bytes key r
