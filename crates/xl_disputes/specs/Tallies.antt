-- What an id has from the sets. Source: what the code of this crate keeps. No public clause cites this file.
use Rattle.std.specs.Prelude.{◌≡◌, ℕ, ◌+◌, ◌-◌, ◌^◌, ◌<◌, ◌≤◌, ◌==◌, nat_lt, Bool, List, ◌∷◌, map}
use Rattle.std.specs.List.{range_with_len}
use Rattle.std.specs.Int.{bit_at}

-- which sets have an id, and how many positions stand for one of them: sums over the sets that have it
pub record Tally : Type 0 where
  -- a member's set gives the member's own bit, so bit m - 1 says whether the set of member m has the id
  pub members : ℕ
  -- each set gives the positions that stand for it
  pub yays : ℕ
  -- our own set gives 1
  pub ours : ℕ

-- what an id has that is in no set
abbrev pub no_tally : Tally
no_tally = record { members = 0; yays = 0; ours = 0 }

-- 0 exactly if no set has the id
abbrev pub held_by : Tally → ℕ
held_by t = t.members + t.ours

-- which sets have the id: our own, and then the members'
abbrev pub holders : Tally → List Bool
holders t = nat_lt 0 t.ours ∷ map (λ n. bit_at t.members n == 1) (range_with_len 0 64)

-- with one part taken out, and another put in
abbrev pub exchanged : Tally → Tally → Tally → Tally
exchanged from to t = record {
  members = t.members - from.members + to.members;
  yays = t.yays - from.yays + to.yays;
  ours = t.ours - from.ours + to.ours;
}

pub record IsWithin (part t : Tally) : Type 0 where
  pub members : part.members ≤ t.members
  pub yays : part.yays ≤ t.yays
  pub ours : part.ours ≤ t.ours

pub record IsFitting (t : Tally) : Type 0 where
  pub members : t.members < 2 ^ 64
  pub yays : t.yays < 2 ^ 32
  pub ours : t.ours < 2 ^ 32

-- what is in no set has nothing else
abbrev pub IsWhole : Tally → Type 0
IsWhole t = held_by t ≡ 0 → t ≡ no_tally
