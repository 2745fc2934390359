-- What is kept of votes and reports: for each amendment who favours it, for each amendment and node one moment, and for
-- each node the fee. Source: what the code of this crate keeps.
use Rattle.std.specs.Prelude.{◌≡◌, ℕ, ◌+◌, ◌-◌, ◌*◌, ◌≤◌, ◌==◌, nat_lt, nat_le, min, Bool, false, List, [], ◌∷◌, ◌++◌, length, map, fold, insert, replicate, slice_index, slice_index_or, slice_set, count_by, All, Option, Some, None, option_map, if◌then◌else◌}
use Rattle.std.specs.List.{flat_map, list_any, prefix_len}
use Rattle.std.specs.Str.{bytes_eq}
use Rattle.xl_base.specs.Sets.{is_below}
use Rattle.xl_base.specs.declared.ids.TxId.{TxId}
use Rattle.xl_disputes.specs.Disputes.{has}
use Rattle.xl_flags.specs.declared.amendment.Amendment.{Amendment}
use Rattle.xl_flags.specs.declared.news.FlagLine.{FlagLine}
use Rattle.xl_flags.specs.declared.news.FlagLine.TheVariants.{Enabled, Majority, Lost, Fee}
use Rattle.xl_flags.specs.declared.standing.Standing.{Standing}
use Rattle.xl_flags.specs.declared.standing.Standing.TheVariants.{Without, Since, InForce}
use Rattle.xl_flags.specs.Votes.{Favor, FlagReport, named_amendments, vote_of, favours, has_majority, elected_fee}
use Rattle.xl_flags.specs.Flags.{reports_of, is_enabled, news_of, fee_of}

-- ---- one amendment at one node

-- the earlier of a close time and of the least before it
abbrev pub earlier_of : ℕ → Option ℕ → ℕ
earlier_of close None = close
earlier_of close (Some since) = min since close

-- the least close time of the latest reports, as long as an amendment has a majority at each
abbrev pub since : TxId → List FlagReport → Option ℕ
since a [] = None
since a (r ∷ older) = if has_majority a r then Some (earlier_of r.close (since a older)) else None

abbrev pub from_since : Option ℕ → Standing
from_since None = Without
from_since (Some s) = Since s

-- how an amendment stands after the reports of a node
abbrev pub standing_of : TxId → List FlagReport → Standing
standing_of a reports = if is_enabled a reports then InForce else from_since (since a reports)

-- how it stands where a majority has lasted since a moment, at a close time
abbrev pub unless_lasts : ℕ → ℕ → Standing
unless_lasts since close = if nat_le (since + 1209600) close then InForce else Since since

-- how it stands after a report more
abbrev pub stands_after : Standing → ℕ → Bool → Standing
stands_after InForce close majority = InForce
stands_after Without close majority = if majority then Since close else Without
stands_after (Since s) close majority = if majority then unless_lasts (min s close) close else Without

-- what is said of an amendment that stood so, and stands so then
abbrev pub news_between : Standing → Standing → ℕ → ℕ → TxId → List FlagLine
news_between InForce after i s a = []
news_between Without InForce i s a = Enabled i s a ∷ []
news_between Without Without i s a = []
news_between Without (Since t) i s a = Majority i s a ∷ []
news_between (Since t) InForce i s a = Enabled i s a ∷ []
news_between (Since t) Without i s a = Lost i s a ∷ []
news_between (Since t) (Since u) i s a = []

-- one line, or none
abbrev pub line_list : Option FlagLine → List FlagLine
line_list None = []
line_list (Some line) = line ∷ []

-- ---- one amendment

abbrev pub is_favoured : List Bool → ℕ → Bool
is_favoured favoured m = slice_index_or favoured (m - 1) false

abbrev pub standing_at : List Standing → ℕ → Standing
standing_at standings i = slice_index_or standings (i - 1) Without

-- whether more than four fifths of the counted members favour it
abbrev pub is_majority : List Bool → List ℕ → Bool
is_majority favoured counted = nat_lt (4 * length counted) (5 * count_by (is_favoured favoured) counted)

-- how it stands at a node after a report more
abbrev pub stands_then : ℕ → ℕ → List ℕ → Amendment → Standing
stands_then i close counted row =
    stands_after (standing_at row.standings i) close (is_majority row.favoured counted)

abbrev pub after_report : ℕ → ℕ → List ℕ → Amendment → Amendment
after_report i close counted row =
    record row { standings = slice_set row.standings (i - 1) (stands_then i close counted row) }

abbrev pub row_news : ℕ → ℕ → ℕ → List ℕ → Amendment → List FlagLine
row_news i s close counted row =
    news_between (standing_at row.standings i) (stands_then i close counted row) i s row.id

-- ---- all that is kept

pub record Kept : Type 0 where
  pub amendments : List Amendment
  pub votes : List (Option ℕ)
  pub fees : List ℕ

-- nothing is kept yet, and the fee is 10 at each node
abbrev pub nothing_kept : Kept
nothing_kept = record { amendments = []; votes = replicate 64 None; fees = replicate 64 10 }

-- the fee that a member votes for, if it voted
abbrev pub fee_voted : List (Option ℕ) → ℕ → Option ℕ
fee_voted votes m = slice_index_or votes (m - 1) None

abbrev pub voted_or : ℕ → Option ℕ → ℕ
voted_or current None = current
voted_or current (Some fee) = fee

abbrev pub kept_votes : List (Option ℕ) → List ℕ → ℕ → List ℕ
kept_votes votes counted current = map (λ m. voted_or current (fee_voted votes m)) counted

-- ---- what it stands for

-- all votes and all reports, the latest first
pub record Past : Type 0 where
  pub favors : List Favor
  pub reports : List FlagReport

-- an amendment is kept as it was voted on and reported
pub record IsRow (past : Past) (row : Amendment) : Type 0 where
  pub favoured : (m : ℕ) → 1 ≤ m → m ≤ 64 → is_favoured row.favoured m ≡ favours (vote_of past.favors m) row.id
  pub stands : (i : ℕ) → 1 ≤ i → i ≤ 64 → standing_at row.standings i ≡ standing_of row.id (reports_of past.reports i)
  pub favoured_long : length row.favoured ≡ 64
  pub standings_long : length row.standings ≡ 64

-- no report counted a vote for an amendment that was not named by then
abbrev pub IsLater : List Favor → FlagReport → Type 0
IsLater favors r = (a : TxId) → has (named_amendments favors) a ≡ false → has_majority a r ≡ false

pub record Remembers (kept : Kept) (past : Past) : Type 0 where
  pub named : map (λ row. row.id) kept.amendments ≡ named_amendments past.favors
  pub rows : All (IsRow past) kept.amendments
  pub votes : (m : ℕ) → 1 ≤ m → m ≤ 64 → fee_voted kept.votes m ≡ option_map (λ f. f.fee) (vote_of past.favors m)
  pub fees : (i : ℕ) → 1 ≤ i → i ≤ 64 → slice_index kept.fees (i - 1) ≡ fee_of (reports_of past.reports i)
  pub fees_long : length kept.fees ≡ 64
  pub votes_long : length kept.votes ≡ 64
  pub later : All (IsLater past.favors) past.reports

-- no votes and no reports
abbrev pub nothing_yet : Past
nothing_yet = record { favors = []; reports = [] }

-- a vote more
abbrev pub with_favor : Past → ℕ → ℕ → List TxId → Past
with_favor past m fee ids = record past { favors = record { member = m; fee = fee; ids = ids } ∷ past.favors }

-- the report that a node makes then
abbrev pub report_of : Past → ℕ → ℕ → List ℕ → FlagReport
report_of past i close counted = record { node = i; close = close; favors = past.favors; counted = counted }

abbrev pub with_report : Past → FlagReport → Past
with_report past r = record past { reports = r ∷ past.reports }

-- what is kept after a report of a node
abbrev pub fee_then : ℕ → List ℕ → Kept → ℕ
fee_then i counted kept =
    let current = slice_index kept.fees (i - 1) in elected_fee (kept_votes kept.votes counted current) current

abbrev pub kept_after : ℕ → ℕ → List ℕ → Kept → Kept
kept_after i close counted kept = record kept {
  amendments = map (after_report i close counted) kept.amendments;
  fees = slice_set kept.fees (i - 1) (fee_then i counted kept);
}

-- and what is said of it
abbrev pub fee_line : ℕ → ℕ → ℕ → ℕ → List FlagLine
fee_line i s now before = if now == before then [] else Fee i s now ∷ []

abbrev pub kept_lines : ℕ → ℕ → ℕ → List ℕ → Kept → List FlagLine
kept_lines i s close counted kept =
    flat_map (row_news i s close counted) kept.amendments
    ++ fee_line i s (fee_then i counted kept) (slice_index kept.fees (i - 1))

-- The law of moments: how an amendment stands, and what is said of it, over all reports of a node.
abbrev pub OneMomentIsEnough : Type 0
OneMomentIsEnough = (a : TxId) (r : FlagReport) (older : List FlagReport)
    → standing_of a (r ∷ older) ≡ stands_after (standing_of a older) r.close (has_majority a r)

abbrev pub NewsAreOfMoments : Type 0
NewsAreOfMoments = (i s : ℕ) (r : FlagReport) (older : List FlagReport) (a : TxId)
    → news_of i s r older a ≡ news_between (standing_of a older) (standing_of a (r ∷ older)) i s a

-- ---- a vote more, over what is kept

abbrev pub ids_of : List Amendment → List TxId
ids_of rows = map (λ row. row.id) rows

-- an amendment that nobody favours yet, and that stands nowhere
abbrev pub new_row : TxId → Amendment
new_row a = record { id = a; favoured = replicate 64 false; standings = replicate 64 Without }

-- whether an id has its amendment
abbrev pub has_row : List Amendment → TxId → Bool
has_row rows a = list_any (λ row. bytes_eq row.id.0 a.0) rows

-- how many stand before it
abbrev pub row_place : List Amendment → TxId → ℕ
row_place rows a = prefix_len (λ row. is_below row.id a) rows

-- with it at its place, once
abbrev pub with_row : List Amendment → TxId → List Amendment
with_row rows a = if has_row rows a then rows else insert rows (row_place rows a) (new_row a)

abbrev pub with_rows : List Amendment → List TxId → List Amendment
with_rows rows ids = fold with_row rows ids

abbrev pub kept_named : List TxId → Kept → Kept
kept_named ids kept = record kept { amendments = with_rows kept.amendments ids }

-- a member favours an amendment where it is among these
abbrev pub favoured_by : ℕ → List TxId → Amendment → Amendment
favoured_by m ids row = record row { favoured = slice_set row.favoured (m - 1) (has ids row.id) }

abbrev pub kept_favored : ℕ → ℕ → List TxId → Kept → Kept
kept_favored m fee ids kept = record kept {
  amendments = map (favoured_by m ids) (with_rows kept.amendments ids);
  votes = slice_set kept.votes (m - 1) (Some fee);
}
