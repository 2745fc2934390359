-- What the code keeps of votes and flag reports. Source: what the code of this crate keeps.
use Rattle.std.specs.Prelude.{◌≡◌, ℕ, ◌+◌, ◌-◌, ◌≤◌, All, List, length, replicate, slice_index_or, slice_set}
use Rattle.std.specs.List.{sum_by}
use Rattle.xl_flags.specs.Kept.{Kept, kept_after, kept_favored, kept_lines, nothing_kept, with_rows}
use Rattle.xl_voting.specs.Keeping.{Keeping}

-- the sequence of each node's last flag report, or 0, in the place of its number, and how many flag reports there were
pub record LatestFlags : Type 0 where
  pub seqs : List ℕ
  pub count : ℕ

-- no flag report
abbrev pub none_latest : LatestFlags
none_latest = record { seqs = replicate 64 0; count = 0 }

-- the greatest sequence that a ledger may have
abbrev pub greatest_seq : ℕ
greatest_seq = 4294967295

-- each flag report raised its node's sequence, so there were no more than all these sequences together
pub record IsCounted (seqs : List ℕ) (count : ℕ) : Type 0 where
  pub long : length seqs ≡ 64
  pub small : All (λ s. s ≤ greatest_seq) seqs
  pub few : count ≤ sum_by (λ s. s) seqs

-- votes, the sequence of each node's last flag report, and how many flag reports there were
pub record Tallying : Type 0 where
  pub kept : Kept
  pub last : List ℕ
  pub count : ℕ

-- no vote and no flag report
abbrev pub nothing_tallied : Tallying
nothing_tallied = record { kept = nothing_kept; last = replicate 64 0; count = 0 }

-- what is kept, as such
abbrev pub tally_keeping : Keeping Tallying
tally_keeping = record {
  named = λ v m fee ids. length (with_rows v.kept.amendments ids);
  voted = λ v m fee ids. record v { kept = kept_favored m fee ids v.kept };
  last = λ v i. slice_index_or v.last (i - 1) 0;
  news = λ v i s close counted. kept_lines i s close counted v.kept;
  reported = λ v i s close counted. record {
    kept = kept_after i close counted v.kept;
    last = slice_set v.last (i - 1) s;
    count = v.count + 1;
  };
  count = λ v. v.count;
}
