-- A round when the node's list changes. Source: this profile, by which a node's list may change while it runs.
use Rattle.std.specs.Prelude.{ℕ, zero, suc, false, List, None, if◌then◌else◌}
use Rattle.xl_lists.specs.Lists.{is_on}
use Rattle.xl_rounds.specs.Positions.{with_at, without_member as without_member_in}
use Rattle.xl_rounds.specs.Rounds.{Round}

-- nothing is known of a member: neither a position, nor a held set, nor a later proposal, nor that it left
abbrev pub without_member : ℕ → Round → Round
without_member member r = record r {
  positions = without_member_in member r.positions;
  left = with_at member false r.left;
  later = with_at member None r.later;
}

abbrev pub unless_listed : List ℕ → ℕ → Round → Round
unless_listed members member r = if is_on members member then r else without_member member r

-- so of the first n members that aren't on the list
unfoldable pub relisted_to : List ℕ → ℕ → Round → Round
relisted_to members zero r = r
relisted_to members (suc n) r = unless_listed members (suc n) (relisted_to members n r)

-- a round of another list: of members that aren't on it nothing is known, and all else stays
abbrev pub relisted_round : List ℕ → Round → Round
relisted_round members r = relisted_to members 64 r
