-- The list in force at a second. Source: this project's own rule.
use Rattle.std.specs.Prelude.{ℕ, ◌+◌, ◌*◌, ◌/◌, ◌==◌, ◌&&◌, nat_lt, nat_le, Bool, false, List, length, filter, count_by, Option, Some, None, if◌then◌else◌}
use Rattle.std.specs.List.{list_any}
use Rattle.xl_lists.specs.Lists.{TrustedList, all_numbers, is_on}
use Rattle.xl_publish.specs.Fields.{from_in, until_in, members_in}

-- whether the kept roll of a publisher names the member
abbrev pub names_in : ℕ → Option (List ℕ) → Bool
names_in member None = false
names_in member (Some roll) = is_on (members_in roll) member

-- whether any kept roll does
abbrev pub is_named : List (Option (List ℕ)) → ℕ → Bool
is_named kept member = list_any (names_in member) kept

-- from the first second of the roll on, and not from its end on
abbrev pub is_in_force : ℕ → List ℕ → Bool
is_in_force now roll = nat_le (from_in roll) now && nat_lt now (until_in roll)

-- whether a publisher has a kept roll that is in force and names the member
abbrev pub stands_for : ℕ → ℕ → Option (List ℕ) → Bool
stands_for now member None = false
stands_for now member (Some roll) = is_in_force now roll && is_on (members_in roll) member

-- whether this many publishers have
abbrev pub is_supported : List (Option (List ℕ)) → ℕ → ℕ → ℕ → Bool
is_supported kept now threshold member = nat_le threshold (count_by (stands_for now member) kept)

-- the members in force
abbrev pub members_at : List (Option (List ℕ)) → ℕ → ℕ → List ℕ
members_at kept now threshold = filter (is_supported kept now threshold) all_numbers

-- with the usual quorum
abbrev pub usual_list : List ℕ → TrustedList
usual_list members = record { members = members; quorum = (4 * length members + 4) / 5 }

-- if there are any
abbrev pub list_of : List ℕ → Option TrustedList
list_of members = if length members == 0 then None else Some (usual_list members)

-- the list in force: none if no member is, or the threshold is 0
abbrev pub list_at : List (Option (List ℕ)) → ℕ → ℕ → Option TrustedList
list_at kept now threshold = if threshold == 0 then None else list_of (members_at kept now threshold)
