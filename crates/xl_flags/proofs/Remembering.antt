-- What is kept stands for all votes and reports, one report after the other.
use Rattle.std.proofs.Common.{◌≡◌, ℕ, ◌+◌, ◌-◌, ◌*◌, ◌<◌, ◌≤◌, Bool, true, false, cond, List, [], ◌∷◌, ◌++◌, Option, Some, None, length, map, get_or, set, length-set, reverse, ◌≢◌, refl, sym, ap, ◌∙◌, arith, inl, inr, get_or-set_same, get_or-set_other}
use Rattle.std.specs.Prelude.{◌==◌, ◌||◌, nat_lt, count_by, slice_index, All, option_map}
use Rattle.std.specs.List.{flat_map}
use Rattle.std.proofs.lemmas.Bool.{cases_Bool, cases_eq, eq-eqb, cond-true, cond-false}
use Rattle.std.proofs.lemmas.Bool.Decides.{nat_tests}
use Rattle.std.proofs.lemmas.Grind.{flat_map-append}
use Rattle.std.proofs.lemmas.List.{reverse-append}
use Rattle.std.proofs.lemmas.List.Folds.{list_any-append}
use Rattle.std.specs.Str.{bytes_eq}
use Rattle.std.proofs.lemmas.List.Elements.{All-head, All-tail, All-cons, All-weaker, All-map}
use Rattle.xl_base.specs.declared.ids.TxId.{TxId}
use Rattle.xl_disputes.specs.Disputes.{has}
use Rattle.xl_disputes.proofs.Extending.{has_rising}
use Rattle.xl_lists.proofs.Counting.{count_by-cons}
use Rattle.xl_flags.specs.declared.amendment.Amendment.{Amendment}
use Rattle.xl_flags.specs.declared.news.FlagLine.{FlagLine}
use Rattle.xl_flags.specs.declared.standing.Standing.{Standing}
use Rattle.xl_flags.specs.declared.standing.Standing.TheVariants.{Without}
use Rattle.xl_flags.specs.Votes.{Favor, FlagReport, named_amendments, vote_of, favours, has_majority, fee_vote, fee_votes, elected_fee}
use Rattle.xl_flags.specs.Flags.{reports_of, fee_of, news_of, lines_of}
use Rattle.xl_flags.specs.Kept.{standing_of, stands_after, news_between, is_favoured, standing_at, is_majority, stands_then, after_report, row_news, Kept, fee_voted, voted_or, kept_votes, Past, IsRow, IsLater, Remembers, report_of, with_report, fee_then, kept_after, fee_line, kept_lines}
use Rattle.xl_flags.proofs.Moments.{standing_more, news_is}

abbrev pub IsMember : ℕ → Type 0
IsMember m = (1 ≤ m) × (m ≤ 64)

-- ---- two tests, or two values, that are alike at each member

count_same : (p q : ℕ → Bool) (xs : List ℕ) → All (λ m. p m ≡ q m) xs → count_by p xs ≡ count_by q xs
count_same p q [] same = refl
count_same p q (x ∷ xs) same =
    count_by-cons p x xs ∙ ap (λ (b : Bool). cond b 1 0 + count_by p xs) (All-head (λ m. p m ≡ q m) x xs same)
    ∙ ap (λ (n : ℕ). cond (q x) 1 0 + n) (count_same p q xs (All-tail (λ m. p m ≡ q m) x xs same)) ∙ sym (count_by-cons q x xs)

map_same : (f g : ℕ → ℕ) (xs : List ℕ) → All (λ m. f m ≡ g m) xs → map f xs ≡ map g xs
map_same f g [] same = refl
map_same f g (x ∷ xs) same =
    ap (λ (y : ℕ). y ∷ map f xs) (All-head (λ m. f m ≡ g m) x xs same) ∙ ap (λ (ys : List ℕ). g x ∷ ys) (map_same f g xs (All-tail (λ m. f m ≡ g m) x xs same))

flat_same : (g : Amendment → List FlagLine) (h : TxId → List FlagLine) (rows : List Amendment) → All (λ row. g row ≡ h row.id) rows → flat_map g rows ≡ flat_map h (map (λ row. row.id) rows)
flat_same g h [] same = refl
flat_same g h (row ∷ rows) same =
    ap (λ (ls : List FlagLine). ls ++ flat_map g rows) (All-head (λ r. g r ≡ h r.id) row rows same)
    ∙ ap (λ (ls : List FlagLine). h row.id ++ ls) (flat_same g h rows (All-tail (λ r. g r ≡ h r.id) row rows same))

same_ids : (i close : ℕ) (counted : List ℕ) (rows : List Amendment) → map (λ row. row.id) (map (after_report i close counted) rows) ≡ map (λ row. row.id) rows
same_ids i close counted [] = refl
same_ids i close counted (row ∷ rows) = ap (λ (ids : List TxId). row.id ∷ ids) (same_ids i close counted rows)

-- ---- a report of a node, and those of the others

own_reports : (r : FlagReport) (reports : List FlagReport) (j : ℕ) → r.node ≡ j → reports_of (r ∷ reports) j ≡ r ∷ reports_of reports j
own_reports r reports j same = cond-true (r.node == j) (r ∷ reports_of reports j) (reports_of reports j) (eq-eqb r.node j same)

other_reports : (r : FlagReport) (reports : List FlagReport) (j : ℕ) → (r.node == j) ≡ false → reports_of (r ∷ reports) j ≡ reports_of reports j
other_reports r reports j other = cond-false (r.node == j) (r ∷ reports_of reports j) (reports_of reports j) other

-- ---- who was not named is not favoured

pub neither : (a b : Bool) → (a || b) ≡ false → (a ≡ false) × (b ≡ false)
neither true b e = absurd cc
neither false b e = (refl, e)

pub has_append : (xs ys : List TxId) (a : TxId) → has (xs ++ ys) a ≡ (has xs a || has ys a)
has_append xs ys a = list_any-append (λ id. bytes_eq id.0 a.0) xs ys

abbrev pub all_ids : List Favor → List TxId
all_ids favors = flat_map (λ f. f.ids) (reverse favors)

pub latest : (f : Favor) (favors : List Favor) → all_ids (f ∷ favors) ≡ all_ids favors ++ (f.ids ++ [])
latest f favors = ap (flat_map (λ g. g.ids)) (reverse-append (f ∷ []) favors) ∙ flat_map-append (λ g. g.ids) (reverse favors) (f ∷ [])

pub unnamed : (favors : List Favor) (a : TxId) (m : ℕ) → has (all_ids favors) a ≡ false → favours (vote_of favors m) a ≡ false
unnamed [] a m off = refl
unnamed (f ∷ favors) a m off =
    let parts = neither (has (all_ids favors) a) (has (f.ids ++ []) a) (sym (ap (λ (ids : List TxId). has ids a) (latest f favors) ∙ has_append (all_ids favors) (f.ids ++ []) a) ∙ off) in
    let own = neither (has f.ids a) (has [] a) (sym (has_append f.ids [] a) ∙ parts.1) in
    elim (cases_Bool (f.member == m)) [
      | inl his ↦ ap (λ (o : Option Favor). favours o a) (cond-true (f.member == m) (Some f) (vote_of favors m) his) ∙ own.0
      | inr other ↦ ap (λ (o : Option Favor). favours o a) (cond-false (f.member == m) (Some f) (vote_of favors m) other) ∙ unnamed favors a m parts.0
    ]

none_counted : (p : ℕ → Bool) (xs : List ℕ) → ((m : ℕ) → p m ≡ false) → count_by p xs ≡ 0
none_counted p [] none = refl
none_counted p (x ∷ xs) none = count_by-cons p x xs ∙ ap (λ (b : Bool). cond b 1 0 + count_by p xs) (none x) ∙ omega (arith, none_counted p xs none)

never_more : (n : ℕ) → nat_lt (4 * n) (5 * 0) ≡ false
never_more n = grind (arith, nat_tests)

-- so it has no majority
no_majority : (past : Past) (i close : ℕ) (counted : List ℕ) → IsLater past.favors (report_of past i close counted)
no_majority past i close counted a off =
    ap (λ (n : ℕ). nat_lt (4 * length counted) (5 * n))
    (none_counted (λ m. favours (vote_of past.favors m) a) counted (λ m. unnamed past.favors a m (sym (has_rising a (all_ids past.favors)) ∙ off)))
    ∙ never_more (length counted)

voted : (current : ℕ) (o : Option Favor) → voted_or current (option_map (λ f. f.fee) o) ≡ fee_vote o current
voted current None = refl
voted current (Some f) = refl

module _ (past : Past) (i close : ℕ) (counted : List ℕ) (member : IsMember i) (members : All IsMember counted) where
  -- the majority is that of the votes
  majority : (row : Amendment) → IsRow past row → is_majority row.favoured counted ≡ has_majority row.id (report_of past i close counted)
  majority row is =
      ap (λ (n : ℕ). nat_lt (4 * length counted) (5 * n))
      (count_same (is_favoured row.favoured) (λ m. favours (vote_of past.favors m) row.id) counted
      (All-weaker IsMember (λ m. is_favoured row.favoured m ≡ favours (vote_of past.favors m) row.id) (λ m numbers. is.favoured m numbers.0 numbers.1) counted members))

  stood : (row : Amendment) → IsRow past row → standing_at row.standings i ≡ standing_of row.id (reports_of past.reports i)
  stood row is = is.stands i member.0 member.1

  standing : (row : Amendment) → IsRow past row →
      stands_then i close counted row ≡ standing_of row.id (report_of past i close counted ∷ reports_of past.reports i)
  standing row is =
      ap (λ (s : Standing). stands_after s close (is_majority row.favoured counted)) (stood row is)
      ∙ ap (stands_after (standing_of row.id (reports_of past.reports i)) close) (majority row is)
      ∙ sym (standing_more row.id (report_of past i close counted) (reports_of past.reports i))

  news : (s : ℕ) (row : Amendment) → IsRow past row → row_news i s close counted row ≡ news_of i s (report_of past i close counted) (reports_of past.reports i) row.id
  news s row is =
      ap (λ (before : Standing). news_between before (stands_then i close counted row) i s row.id) (stood row is)
      ∙ ap (λ (then_stands : Standing). news_between (standing_of row.id (reports_of past.reports i)) then_stands i s row.id) (standing row is)
      ∙ sym (news_is i s (report_of past i close counted) (reports_of past.reports i) row.id)

  -- the row is kept as it was reported
  stands_so : (row : Amendment) → IsRow past row → (j : ℕ) → 1 ≤ j → j ≤ 64 →
      standing_at (after_report i close counted row).standings j ≡ standing_of row.id (reports_of (report_of past i close counted ∷ past.reports) j)
  stands_so row is j low high =
      elim (cases_eq i j) [
        | inl same ↦
            let place : i - 1 ≡ j - 1 = omega arith in
            let lt : i - 1 < length row.standings = omega (arith, is.standings_long, member.0, member.1) in
            ap (λ (n : ℕ). get_or (set row.standings (i - 1) (stands_then i close counted row)) n Without) (sym place)
            ∙ get_or-set_same row.standings (i - 1) (stands_then i close counted row) Without lt
            ∙ standing row is
            ∙ ap (λ (n : ℕ). standing_of row.id (report_of past i close counted ∷ reports_of past.reports n)) same
            ∙ ap (standing_of row.id) (sym (own_reports (report_of past i close counted) past.reports j same))
        | inr other ↦
            let place : j - 1 ≢ i - 1 = omega (arith, member.0) in
            get_or-set_other row.standings (i - 1) (j - 1) (stands_then i close counted row) Without place
            ∙ is.stands j low high
            ∙ ap (standing_of row.id) (sym (other_reports (report_of past i close counted) past.reports j (grind (arith, nat_tests))))
      ]

  pub row_after : (row : Amendment) → IsRow past row → IsRow (with_report past (report_of past i close counted)) (after_report i close counted row)
  row_after row is = record {
    favoured = is.favoured;
    stands = stands_so row is;
    favoured_long = is.favoured_long;
    standings_long = length-set row.standings (i - 1) (stands_then i close counted row) ∙ is.standings_long;
  }

  module _ (kept : Kept) (is : Remembers kept past) where
    current : slice_index kept.fees (i - 1) ≡ fee_of (reports_of past.reports i)
    current = is.fees i member.0 member.1

    votes_same : (fee : ℕ) → kept_votes kept.votes counted fee ≡ fee_votes (report_of past i close counted) fee
    votes_same fee =
        map_same (λ m. voted_or fee (fee_voted kept.votes m)) (λ m. fee_vote (vote_of past.favors m) fee) counted
        (All-weaker IsMember (λ m. voted_or fee (fee_voted kept.votes m) ≡ fee_vote (vote_of past.favors m) fee)
        (λ m numbers. ap (voted_or fee) (is.votes m numbers.0 numbers.1) ∙ voted fee (vote_of past.favors m)) counted members)

    fee_is : fee_then i counted kept ≡ fee_of (report_of past i close counted ∷ reports_of past.reports i)
    fee_is =
        ap (λ (fee : ℕ). elected_fee (kept_votes kept.votes counted fee) fee) current
        ∙ ap (λ (votes : List ℕ). elected_fee votes (fee_of (reports_of past.reports i))) (votes_same (fee_of (reports_of past.reports i)))

    -- the lines are those of one report more
    pub lines_are : (s : ℕ) → kept_lines i s close counted kept ≡ lines_of i s (report_of past i close counted) (reports_of past.reports i)
    lines_are s =
        ap (λ (ls : List FlagLine). ls ++ fee_line i s (fee_then i counted kept) (slice_index kept.fees (i - 1)))
        (flat_same (row_news i s close counted) (news_of i s (report_of past i close counted) (reports_of past.reports i)) kept.amendments
        (All-weaker (IsRow past) (λ row. row_news i s close counted row ≡ news_of i s (report_of past i close counted) (reports_of past.reports i) row.id) (λ row so. news s row so) kept.amendments is.rows)
        ∙ ap (flat_map (news_of i s (report_of past i close counted) (reports_of past.reports i))) is.named)
        ∙ ap (λ (fee : ℕ). flat_map (news_of i s (report_of past i close counted) (reports_of past.reports i)) (named_amendments past.favors) ++ fee_line i s fee (slice_index kept.fees (i - 1))) fee_is
        ∙ ap (λ (fee : ℕ). flat_map (news_of i s (report_of past i close counted) (reports_of past.reports i)) (named_amendments past.favors) ++ fee_line i s (fee_of (report_of past i close counted ∷ reports_of past.reports i)) fee) current

    fees_so : (j : ℕ) → 1 ≤ j → j ≤ 64 → slice_index (kept_after i close counted kept).fees (j - 1) ≡ fee_of (reports_of (report_of past i close counted ∷ past.reports) j)
    fees_so j low high =
        elim (cases_eq i j) [
          | inl same ↦
              let place : i - 1 ≡ j - 1 = omega arith in
              let lt : i - 1 < length kept.fees = omega (arith, is.fees_long, member.0, member.1) in
              ap (λ (n : ℕ). get_or (set kept.fees (i - 1) (fee_then i counted kept)) n 0) (sym place)
              ∙ get_or-set_same kept.fees (i - 1) (fee_then i counted kept) 0 lt ∙ fee_is
              ∙ ap (λ (n : ℕ). fee_of (report_of past i close counted ∷ reports_of past.reports n)) same
              ∙ ap fee_of (sym (own_reports (report_of past i close counted) past.reports j same))
          | inr other ↦
              let place : j - 1 ≢ i - 1 = omega (arith, member.0) in
              get_or-set_other kept.fees (i - 1) (j - 1) (fee_then i counted kept) 0 place ∙ is.fees j low high
              ∙ ap fee_of (sym (other_reports (report_of past i close counted) past.reports j (grind (arith, nat_tests))))
        ]

    -- and it is kept
    pub remembers_report : Remembers (kept_after i close counted kept) (with_report past (report_of past i close counted))
    remembers_report = record {
      named = same_ids i close counted kept.amendments ∙ is.named;
      rows = All-map (IsRow (with_report past (report_of past i close counted))) (after_report i close counted) kept.amendments
          (All-weaker (IsRow past) (λ row. IsRow (with_report past (report_of past i close counted)) (after_report i close counted row)) (λ row so. row_after row so) kept.amendments is.rows);
      votes = is.votes;
      fees = fees_so;
      fees_long = length-set kept.fees (i - 1) (fee_then i counted kept) ∙ is.fees_long;
      votes_long = is.votes_long;
      later = All-cons (IsLater past.favors) (report_of past i close counted) past.reports (no_majority past i close counted) is.later;
    }
