-- Numbers of members. Source: this profile's own.
use Rattle.std.specs.Prelude.{ℕ}

-- the greatest number of a member; the least is 1
abbrev pub greatest_node_no : ℕ
greatest_node_no = 64

-- the most members, one for each number
abbrev pub most_members : ℕ
most_members = 64
