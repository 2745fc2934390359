-- All votes and all flag reports, as lists. Source: rippled's amendment and fee votes; this project's own flag reports.
use Rattle.std.specs.Prelude.{ℕ, ◌==◌, List, [], ◌∷◌, length, find, option_map, unwrap_or}
use Rattle.xl_flags.specs.Flags.{lines_of, reports_of}
use Rattle.xl_flags.specs.Kept.{Past, with_favor, nothing_yet, report_of, with_report}
use Rattle.xl_flags.specs.Votes.{named_amendments}
use Rattle.xl_voting.specs.Keeping.{Keeping}

-- a node's flag report, by its sequence
pub record Flag : Type 0 where
  pub node : ℕ
  pub seq : ℕ

-- all votes and all flag reports, the latest first
pub record Listing : Type 0 where
  pub past : Past
  pub flags : List Flag

-- no vote and no flag report
abbrev pub nothing_listed : Listing
nothing_listed = record { past = nothing_yet; flags = [] }

-- the sequence of a node's last flag report, or 0
abbrev pub last_of : List Flag → ℕ → ℕ
last_of flags i = unwrap_or (option_map (λ f. f.seq) (find (λ f. f.node == i) flags)) 0

-- lists, as what is kept
abbrev pub list_keeping : Keeping Listing
list_keeping = record {
  named = λ v m fee ids. length (named_amendments (with_favor v.past m fee ids).favors);
  voted = λ v m fee ids. record v { past = with_favor v.past m fee ids };
  last = λ v i. last_of v.flags i;
  news = λ v i s close counted. lines_of i s (report_of v.past i close counted) (reports_of v.past.reports i);
  reported = λ v i s close counted. record {
    past = with_report v.past (report_of v.past i close counted);
    flags = record { node = i; seq = s } ∷ v.flags;
  };
  count = λ v. length v.flags;
}
