-- Lists of members: what one is, and what is refused. Source: this project's own limits.
use Rattle.std.specs.Prelude.{◌≡◌, ℕ, ◌*◌, ◌==◌, ◌≤◌, ◌<◌, ◌&&◌, ◌||◌, not, nat_eq, nat_lt, nat_le, Bool, List, [], ◌∷◌, ◌++◌, length, find, filter, All, Option, Some, None, option_map, Result, if◌then◌else◌}
use Rattle.std.specs.List.{list_any, IsDistinct, range_with_len}
use Rattle.xl_base.specs.Refusals.{refused_if, first_of, unless_refused}
use Rattle.xl_lists.specs.declared.refusal.ListRefusal.{ListRefusal}
use Rattle.xl_lists.specs.declared.refusal.ListRefusal.TheVariants.{Empty, TooMany, OutOfRange, Repeated, Quorum}

-- a list of members, and how many of them are a quorum
pub record TrustedList : Type 0 where
  pub members : List ℕ
  pub quorum : ℕ

-- whether a member stands on a list
abbrev pub is_on : List ℕ → ℕ → Bool
is_on members m = list_any (λ k. m == k) members

-- the numbers of members, from 1 to 64
unfoldable pub all_numbers : List ℕ
all_numbers = range_with_len 1 64

-- these members by rising number, in whatever order they were given
abbrev pub rising : List ℕ → List ℕ
rising members = filter (is_on members) all_numbers

-- whether no member has this number
abbrev pub is_outside : ℕ → Bool
is_outside m = m == 0 || nat_lt 64 m

-- the first of some numbers that stood before, after those that were seen
abbrev pub repeated_after : List ℕ → List ℕ → Option ℕ
repeated_after seen [] = None
repeated_after seen (m ∷ ms) = if is_on seen m then Some m else repeated_after (seen ++ m ∷ []) ms

-- whether a quorum is at most all of n members, and more than half of them
abbrev pub is_quorum : ℕ → ℕ → Bool
is_quorum quorum n = nat_le quorum n && nat_lt n (2 * quorum)

-- the first cause, in this order, for which these are no list
abbrev pub refusal_of : List ℕ → ℕ → Option ListRefusal
refusal_of members quorum = first_of (
    refused_if (length members == 0) Empty
    ∷ refused_if (nat_lt 64 (length members)) (TooMany (length members))
    ∷ option_map OutOfRange (find is_outside members)
    ∷ option_map Repeated (repeated_after [] members)
    ∷ refused_if (not (is_quorum quorum (length members))) (Quorum quorum (length members))
    ∷ [])

-- the list of these members, by rising number, and this quorum, or the first cause for which there is none
abbrev pub list_of : List ℕ → ℕ → Result TrustedList ListRefusal
list_of members quorum = unless_refused (refusal_of members quorum) (record { members = rising members; quorum = quorum })

-- what every list keeps
pub record IsValid (list : TrustedList) : Type 0 where
  pub some : 1 ≤ length list.members
  pub at_most : length list.members ≤ 64
  pub numbers : All (λ m. (1 ≤ m) × (m ≤ 64)) list.members
  pub once : IsDistinct nat_eq list.members
  pub ordered : rising list.members ≡ list.members
  pub within : list.quorum ≤ length list.members
  pub majority : length list.members < 2 * list.quorum

-- the number of each refusal
abbrev pub code_of : ListRefusal → ℕ
code_of Empty = 11
code_of (TooMany n) = 12
code_of (OutOfRange m) = 15
code_of (Repeated m) = 13
code_of (Quorum quorum members) = 14
