-- What is kept stands for all votes and reports, one vote after the other.
use Rattle.std.proofs.Common.{◌≡◌, ◌≢◌, ℕ, zero, suc, ◌+◌, ◌-◌, ◌<◌, ◌≤◌, Bool, true, false, List, [], ◌∷◌, ◌++◌, Option, Some, None, length, map, get_or, set, take, drop, replicate, length-set, refl, sym, ap, subst, ◌∙◌, arith, inl, inr, append_assoc, get_or-set_same, get_or-set_other}
use Rattle.std.specs.Prelude.{◌==◌, ◌||◌, insert, All, option_map, nat_le}
use Rattle.std.specs.List.{list_all, list_any}
use Rattle.xl_base.specs.Sets.{IsRising}
use Rattle.std.proofs.lemmas.Bool.{and_parts, cases_Bool, cases_eq, eq-eqb, cond-true, cond-false}
use Rattle.std.proofs.lemmas.Bool.Decides.{nat_tests}
use Rattle.std.proofs.lemmas.List.{append-nil, length-map, length-replicate}
use Rattle.std.proofs.lemmas.List.Elements.{All-head, All-tail, All-cons, All-append, All-take, All-drop, All-weaker, All-map, All-filter}
use Rattle.xl_base.specs.declared.ids.TxId.{TxId}
use Rattle.xl_disputes.specs.Disputes.{has}
use Rattle.xl_disputes.specs.Rising.{with_tx, rising}
use Rattle.xl_disputes.proofs.Extending.{has_rising}
use Rattle.xl_flags.specs.declared.amendment.Amendment.{Amendment}
use Rattle.xl_flags.specs.declared.standing.Standing.TheVariants.{Without, InForce}
use Rattle.xl_flags.specs.Votes.{Favor, FlagReport, named_amendments, vote_of, favours, has_majority}
use Rattle.xl_flags.specs.Flags.{run, lasts, is_enabled, reports_of}
use Rattle.xl_flags.specs.Kept.{earlier_of, since, from_since, standing_of, is_favoured, Kept, fee_voted, Past, IsRow, IsLater, Remembers, with_favor, ids_of, new_row, has_row, row_place, with_row, with_rows, favoured_by, kept_favored}
use Rattle.xl_flags.specs.declared.standing.TheConstants.{LASTING}
use Rattle.xl_flags.proofs.Naming.{same_has, ids_with_row, rising_more, rising_rises}
use Rattle.xl_flags.proofs.Remembering.{neither, has_append, all_ids, latest, unnamed}

-- ---- ids that have their amendments already

pub all_rows : (rows : List Amendment) (ids : List TxId) → list_all (has_row rows) ids ≡ true → with_rows rows ids ≡ rows
all_rows rows [] all = refl
all_rows rows (a ∷ ids) all =
    ap (λ (more : List Amendment). with_rows more ids) (cond-true (has_row rows a) rows (insert rows (row_place rows a) (new_row a)) (and_parts _ _ all).0)
    ∙ all_rows rows ids (and_parts _ _ all).1

-- ---- an amendment that was never named stands nowhere

never_since : (a : TxId) (reports : List FlagReport) → All (λ r. has_majority a r ≡ false) reports → since a reports ≡ None
never_since a [] none = refl
never_since a (r ∷ older) none =
    cond-false (has_majority a r) (Some (earlier_of r.close (since a older))) None (All-head (λ q. has_majority a q ≡ false) r older none)

never_lasts : (a : TxId) (r : FlagReport) (older : List FlagReport) → has_majority a r ≡ false → lasts a (r ∷ older) ≡ false
never_lasts a r older lacks = ap (λ (rs : List FlagReport). list_any (λ o. nat_le (o.close + LASTING) r.close) rs) (cond-false (has_majority a r) (r ∷ run a older) [] lacks)

never_enabled : (a : TxId) (reports : List FlagReport) → All (λ r. has_majority a r ≡ false) reports → is_enabled a reports ≡ false
never_enabled a [] none = refl
never_enabled a (r ∷ older) none =
    nor (is_enabled a older) (lasts a (r ∷ older)) (never_enabled a older (All-tail (λ q. has_majority a q ≡ false) r older none))
    (never_lasts a r older (All-head (λ q. has_majority a q ≡ false) r older none))
  where
    nor : (b c : Bool) → b ≡ false → c ≡ false → (b || c) ≡ false
    nor true c e f = absurd cc
    nor false c e f = f

never_stands : (a : TxId) (reports : List FlagReport) → All (λ r. has_majority a r ≡ false) reports → standing_of a reports ≡ Without
never_stands a reports none =
    cond-false (is_enabled a reports) InForce (from_since (since a reports)) (never_enabled a reports none) ∙ ap from_since (never_since a reports none)

all_false : (n k : ℕ) → get_or (replicate n false) k false ≡ false
all_false zero k = refl
all_false (suc n) zero = refl
all_false (suc n) (suc k) = all_false n k

all_without : (n k : ℕ) → get_or (replicate n Without) k Without ≡ Without
all_without zero k = refl
all_without (suc n) zero = refl
all_without (suc n) (suc k) = all_without n k

module _ (past : Past) (is_later : All (IsLater past.favors) past.reports) where
  new_is : (a : TxId) → has (all_ids past.favors) a ≡ false → IsRow past (new_row a)
  new_is a off = record {
    favoured = λ m low high. all_false 64 (m - 1) ∙ sym (unnamed past.favors a m off);
    stands = λ i low high. all_without 64 (i - 1)
        ∙ sym (never_stands a (reports_of past.reports i) (All-filter (λ r. r.node == i) (λ r. has_majority a r ≡ false) past.reports
        (All-weaker (IsLater past.favors) (λ r. has_majority a r ≡ false) (λ r so. so a (has_rising a (all_ids past.favors) ∙ off)) past.reports is_later)));
    favoured_long = length-replicate 64 false;
    standings_long = length-replicate 64 Without;
  }

  -- ids more, each with its amendment
  rows_named : (rows : List Amendment) (txs ids : List TxId) → ids_of rows ≡ rising (all_ids past.favors ++ txs) → All (IsRow past) rows →
      (ids_of (with_rows rows ids) ≡ rising (all_ids past.favors ++ (txs ++ ids))) × All (IsRow past) (with_rows rows ids)
  rows_named rows txs [] is all = (is ∙ ap (λ (ts : List TxId). rising (all_ids past.favors ++ ts)) (sym (append-nil txs)), all)
  rows_named rows txs (a ∷ ids) is all =
      let rises : IsRising (ids_of rows) = subst IsRising (sym is) (rising_rises (all_ids past.favors ++ txs)) in
      let more : ids_of (with_row rows a) ≡ rising (all_ids past.favors ++ (txs ++ a ∷ [])) =
      ids_with_row rows a rises ∙ ap (with_tx a) is ∙ sym (rising_more (all_ids past.favors ++ txs) a)
      ∙ ap rising (append_assoc (all_ids past.favors) txs (a ∷ [])) in
      let each : All (IsRow past) (with_row rows a) =
      elim (cases_Bool (has_row rows a)) [
        | inl there ↦ subst (All (IsRow past)) (sym (cond-true (has_row rows a) rows (insert rows (row_place rows a) (new_row a)) there)) all
        | inr new ↦
            let absent : has (all_ids past.favors ++ txs) a ≡ false =
            sym (has_rising a (all_ids past.favors ++ txs)) ∙ ap (λ (ts : List TxId). has ts a) (sym is) ∙ sym (same_has rows a) ∙ new in
            let off : has (all_ids past.favors) a ≡ false = (neither (has (all_ids past.favors) a) (has txs a) (sym (has_append (all_ids past.favors) txs a) ∙ absent)).0 in
            subst (All (IsRow past)) (sym (cond-false (has_row rows a) rows (insert rows (row_place rows a) (new_row a)) new))
            (All-append (IsRow past) (take (row_place rows a) rows) (new_row a ∷ drop (row_place rows a) rows) (All-take (IsRow past) (row_place rows a) rows all)
            (All-cons (IsRow past) (new_row a) (drop (row_place rows a) rows) (new_is a off) (All-drop (IsRow past) (row_place rows a) rows all)))
      ] in
      let rest = rows_named (with_row rows a) (txs ++ a ∷ []) ids more each in
      (rest.0 ∙ ap (λ (ts : List TxId). rising (all_ids past.favors ++ ts)) (append_assoc txs (a ∷ []) ids), rest.1)

-- ---- a vote more

module _ (past : Past) (m fee : ℕ) (ids : List TxId) (low : 1 ≤ m) (high : m ≤ 64) where
  own_vote : (j : ℕ) → m ≡ j → vote_of (with_favor past m fee ids).favors j ≡ Some (record { member = m; fee = fee; ids = ids })
  own_vote j same = cond-true (m == j) (Some (record { member = m; fee = fee; ids = ids })) (vote_of past.favors j) (eq-eqb m j same)

  other_vote : (j : ℕ) → (m == j) ≡ false → vote_of (with_favor past m fee ids).favors j ≡ vote_of past.favors j
  other_vote j other = cond-false (m == j) (Some (record { member = m; fee = fee; ids = ids })) (vote_of past.favors j) other

  favoured_so : (row : Amendment) → IsRow past row → (j : ℕ) → 1 ≤ j → j ≤ 64 →
      is_favoured (favoured_by m ids row).favoured j ≡ favours (vote_of (with_favor past m fee ids).favors j) row.id
  favoured_so row is j j_low j_high =
      elim (cases_eq m j) [
        | inl same ↦
            let place : m - 1 ≡ j - 1 = omega arith in
            let lt : m - 1 < length row.favoured = omega (arith, is.favoured_long) in
            ap (λ (n : ℕ). get_or (set row.favoured (m - 1) (has ids row.id)) n false) (sym place)
            ∙ get_or-set_same row.favoured (m - 1) (has ids row.id) false lt
            ∙ ap (λ (o : Option Favor). favours o row.id) (sym (own_vote j same))
        | inr other ↦
            let place : j - 1 ≢ m - 1 = omega arith in
            get_or-set_other row.favoured (m - 1) (j - 1) (has ids row.id) false place ∙ is.favoured j j_low j_high
            ∙ ap (λ (o : Option Favor). favours o row.id) (sym (other_vote j (grind (arith, nat_tests))))
      ]

  row_favored : (row : Amendment) → IsRow past row → IsRow (with_favor past m fee ids) (favoured_by m ids row)
  row_favored row is = record {
    favoured = favoured_so row is;
    stands = is.stands;
    favoured_long = length-set row.favoured (m - 1) (has ids row.id) ∙ is.favoured_long;
    standings_long = is.standings_long;
  }

  all_named : all_ids (with_favor past m fee ids).favors ≡ all_ids past.favors ++ ids
  all_named = latest (record { member = m; fee = fee; ids = ids }) past.favors ∙ ap (λ (ts : List TxId). all_ids past.favors ++ ts) (append-nil ids)

  still_later : (r : FlagReport) → IsLater past.favors r → IsLater (with_favor past m fee ids).favors r
  still_later r so a off =
      so a (has_rising a (all_ids past.favors)
      ∙ (neither (has (all_ids past.favors) a) (has ids a)
      (sym (has_append (all_ids past.favors) ids a) ∙ ap (λ (ts : List TxId). has ts a) (sym all_named) ∙ sym (has_rising a (all_ids (with_favor past m fee ids).favors)) ∙ off)).0)

  same_ids : (rows : List Amendment) → ids_of (map (favoured_by m ids) rows) ≡ ids_of rows
  same_ids [] = refl
  same_ids (row ∷ rows) = ap (λ (ts : List TxId). row.id ∷ ts) (same_ids rows)

  module _ (kept : Kept) (is : Remembers kept past) where
    parts : (ids_of (with_rows kept.amendments ids) ≡ rising (all_ids past.favors ++ ids)) × All (IsRow past) (with_rows kept.amendments ids)
    parts = rows_named past is.later kept.amendments [] ids (is.named ∙ ap rising (sym (append-nil (all_ids past.favors)))) is.rows

    ids_are : ids_of (with_rows kept.amendments ids) ≡ named_amendments (with_favor past m fee ids).favors
    ids_are = parts.0 ∙ ap rising (sym all_named)

    pub so_many : length (with_rows kept.amendments ids) ≡ length (named_amendments (with_favor past m fee ids).favors)
    so_many = sym (length-map (with_rows kept.amendments ids) (λ row. row.id)) ∙ ap length ids_are

    voted_so : (j : ℕ) → 1 ≤ j → j ≤ 64 → fee_voted (kept_favored m fee ids kept).votes j ≡ option_map (λ f. f.fee) (vote_of (with_favor past m fee ids).favors j)
    voted_so j j_low j_high =
        elim (cases_eq m j) [
          | inl same ↦
              let place : m - 1 ≡ j - 1 = omega arith in
              let lt : m - 1 < length kept.votes = omega (arith, is.votes_long) in
              ap (λ (n : ℕ). get_or (set kept.votes (m - 1) (Some fee)) n None) (sym place)
              ∙ get_or-set_same kept.votes (m - 1) (Some fee) None lt
              ∙ ap (option_map (λ (f : Favor). f.fee)) (sym (own_vote j same))
          | inr other ↦
              let place : j - 1 ≢ m - 1 = omega arith in
              get_or-set_other kept.votes (m - 1) (j - 1) (Some fee) None place ∙ is.votes j j_low j_high
              ∙ ap (option_map (λ (f : Favor). f.fee)) (sym (other_vote j (grind (arith, nat_tests))))
        ]

    pub remembers_vote : Remembers (kept_favored m fee ids kept) (with_favor past m fee ids)
    remembers_vote = record {
      named = same_ids (with_rows kept.amendments ids) ∙ ids_are;
      rows = All-map (IsRow (with_favor past m fee ids)) (favoured_by m ids) (with_rows kept.amendments ids)
          (All-weaker (IsRow past) (λ row. IsRow (with_favor past m fee ids) (favoured_by m ids row)) (λ row so. row_favored row so) (with_rows kept.amendments ids) parts.1);
      votes = voted_so;
      fees = is.fees;
      fees_long = is.fees_long;
      votes_long = length-set kept.votes (m - 1) (Some fee) ∙ is.votes_long;
      later = All-weaker (IsLater past.favors) (IsLater (with_favor past m fee ids).favors) (λ r so. still_later r so) past.reports is.later;
    }
