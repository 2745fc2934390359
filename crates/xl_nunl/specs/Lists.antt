-- Lists without some of their members, and what they keep. Source: rippled's negative UNL; the numbers are this
-- profile's.
use Rattle.std.specs.Prelude.{ℕ, ◌+◌, ◌*◌, ◌/◌, ◌≤◌, ◌<◌, ◌&&◌, not, nat_eq, max, List, length, filter, count_by, All, IsTrue}
use Rattle.std.specs.List.{range_with_len, IsDistinct}
use Rattle.xl_lists.specs.Lists.{TrustedList, is_on}
use Rattle.xl_lists.specs.Quorums.{Enough}

-- the members that are left out of a list: different ones of it, at most a quarter
pub record IsNegative (full negative : List ℕ) : Type 0 where
  pub once : IsDistinct nat_eq negative
  pub on : All (λ m. IsTrue (is_on full m)) negative
  pub quarter : length negative ≤ length full / 4

-- a quorum of a list of n members has at least this many, whoever is left out
abbrev pub least_quorum : ℕ → ℕ
least_quorum n = (3 * n + 4) / 5

-- those of the first members by number that stay
unfoldable pub staying_up_to : List ℕ → List ℕ → ℕ → List ℕ
staying_up_to full negative n = filter (λ m. is_on full m && not (is_on negative m)) (range_with_len 1 n)

-- the members that stay, by rising number
unfoldable pub staying_members : List ℕ → List ℕ → List ℕ
staying_members full negative = staying_up_to full negative 64

-- the list in force: four fifths of those that stay are a quorum, but at least three fifths of all
abbrev pub list_without : List ℕ → List ℕ → TrustedList
list_without full negative = record {
  members = staying_members full negative;
  quorum = max ((4 * length (staying_members full negative) + 4) / 5) (least_quorum (length full));
}

-- a list that may be in force at a node which declared these members
pub record MayBeInForce (full : List ℕ) (list : TrustedList) : Type 0 where
  pub once : IsDistinct nat_eq list.members
  pub on : All (λ m. IsTrue (is_on full m)) list.members
  pub quorum : least_quorum (length full) ≤ list.quorum

-- The law: of two nodes that declared the same members, some of them liars, the quorums in force are always enough,
-- where twice the least quorum exceeds the members and the liars among them.
abbrev pub NegativeListsAreEnough : Type 0
NegativeListsAreEnough = (full liars : List ℕ) (a b : TrustedList) → IsDistinct nat_eq full
    → MayBeInForce full a → MayBeInForce full b
    → length full + count_by (is_on liars) full < 2 * least_quorum (length full) → Enough liars a b
