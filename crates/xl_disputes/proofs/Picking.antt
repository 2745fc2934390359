-- The ids of the index that pass are our next set.
use Rattle.std.proofs.Common.{◌≡◌, ℕ, zero, suc, ◌+◌, ◌<◌, ◌≤◌, ◌&&◌, ◌||◌, Bool, true, false, cond, List, [], ◌∷◌, ◌++◌, length, take, get_or, refl, sym, ap, ◌∙◌, arith, append-nil, length-append}
use Rattle.std.specs.Prelude.{filter, flat_map, filter_map, All, Option, Some, None, unwrap_or}
use Rattle.std.proofs.Math.Path.{fun_ext}
use Rattle.std.proofs.lemmas.List.{take_more, take_all, take-append-le}
use Rattle.std.proofs.lemmas.List.Elements.{All-nil, All-cons, All-head, All-tail, All-weaker, filter-append}
use Rattle.xl_base.specs.Sets.{RisesFrom, IsRising, IsSet}
use Rattle.xl_base.specs.declared.ids.TxId.{TxId}
use Rattle.xl_base.specs.declared.ids.SetId.{SetId}
use Rattle.xl_disputes.specs.declared.rows.Row.{Row}
use Rattle.xl_disputes.specs.Disputes.{has, votes}
use Rattle.xl_disputes.specs.Rising.{rising, lowest}
use Rattle.xl_disputes.specs.Votes.{next_vote}
use Rattle.xl_disputes.specs.Next.{winners}
use Rattle.xl_disputes.specs.Rows.{is_same, ids_of, tally_of, IsIndex}
use Rattle.xl_disputes.specs.Holdings.{Holding, ids_in, total, IsShared}
use Rattle.xl_disputes.specs.Standings.{voters, votes_by, wins, next_of, known_of, IsKept}
use Rattle.xl_disputes.specs.declared.shares.TheConstants.{PLACES}
use Rattle.xl_disputes.proofs.IdOrder.{same_itself, below_other}
use Rattle.xl_disputes.proofs.Exchanging.{rises_rest, RisesFrom-lower}
use Rattle.xl_disputes.proofs.RisingIds.{IsRising-fold, IsSet-lowest}
use Rattle.xl_disputes.proofs.Sharing.{same_members}
use Rattle.xl_disputes.proofs.Extending.{same_ids, has_rising, has_filter, filter-IsRising}
use Rattle.xl_disputes.proofs.Standing.{sets_of}
use Rattle.xl_disputes.proofs.Votings.{counted_are, votes_are}

-- ---- a walk over the rows

pub take_append : {A : Type 0} (n : ℕ) (xs ys : List A) → take n (take n xs ++ ys) ≡ take n (xs ++ ys)
take_append zero xs ys = refl
take_append (suc n) [] ys = refl
take_append (suc n) (x ∷ xs) ys = ap (λ zs. x ∷ zs) (take_append n xs ys)

pub fits_all : (ids : List TxId) (id : TxId) → length ids < 256 → take 256 (ids ++ id ∷ []) ≡ ids ++ id ∷ []
fits_all ids id few = take_all 256 (ids ++ id ∷ []) (omega (arith, length-append ids (id ∷ []), few))

pub fits_none : (ids : List TxId) (id : TxId) → length ids ≡ 256 → take 256 (ids ++ id ∷ []) ≡ ids
fits_none ids id full = take-append-le 256 ids (id ∷ []) (omega (arith, full)) ∙ take_all 256 ids (omega (arith, full))

ids_append : (a b : List Row) → ids_of (a ++ b) ≡ ids_of a ++ ids_of b
ids_append [] b = refl
ids_append (row ∷ a) b = ap (λ ids. row.id ∷ ids) (ids_append a b)

module _ (q : Row → Bool) (rows : List Row) (i : ℕ) (row : Row) (within : i < length rows) (at : row ≡ get_or rows i row) where
  one_more : filter q (take (i + 1) rows) ≡ filter q (take i rows) ++ filter q (row ∷ [])
  one_more = ap (filter q) (take_more rows i row within ∙ ap (λ r. take i rows ++ r ∷ []) (sym at)) ∙ filter-append q (take i rows) (row ∷ [])

  -- one row more
  step : (b : Bool) (before after : List TxId) → before ≡ take 256 (ids_of (filter q (take i rows))) → after ≡ cond b (take 256 (before ++ row.id ∷ [])) before →
      after ≡ take 256 (ids_of (filter q (take i rows) ++ cond b (row ∷ []) []))
  step true before after so_far is =
      is ∙ ap (λ ids. take 256 (ids ++ row.id ∷ [])) so_far ∙ take_append 256 (ids_of (filter q (take i rows))) (row.id ∷ [])
      ∙ ap (take 256) (sym (ids_append (filter q (take i rows)) (row ∷ [])))
  step false before after so_far is = is ∙ so_far ∙ ap (λ rs. take 256 (ids_of rs)) (sym (append-nil (filter q (take i rows))))

  pub picked_more : (before after : List TxId) → before ≡ take 256 (ids_of (filter q (take i rows))) → after ≡ cond (q row) (take 256 (before ++ row.id ∷ [])) before →
      after ≡ take 256 (ids_of (filter q (take (i + 1) rows)))
  picked_more before after so_far is = step (q row) before after so_far is ∙ ap (λ rs. take 256 (ids_of rs)) (sym one_more)

pub picked_all : (q : Row → Bool) (rows : List Row) (n : ℕ) (ids : List TxId) → length rows ≤ n → ids ≡ take 256 (ids_of (filter q (take n rows))) → ids ≡ take 256 (ids_of (filter q rows))
picked_all q rows n ids past is = is ∙ ap (λ rs. take 256 (ids_of (filter q rs))) (take_all n rows past)

-- ---- each row has what its id has

lower_rows : (row : Row) (rows some : List Row) → RisesFrom row.id (ids_of some) → All (λ r. tally_of rows r.id ≡ r.tally) some → All (λ r. tally_of (row ∷ rows) r.id ≡ r.tally) some
lower_rows row rows [] rises all = All-nil (λ r. tally_of (row ∷ rows) r.id ≡ r.tally)
lower_rows row rows (r ∷ some) rises all =
    let head : tally_of (row ∷ rows) r.id ≡ r.tally = rw (below_other row.id r.id rises.0) (All-head (λ x. tally_of rows x.id ≡ x.tally) r some all) in
    All-cons (λ x. tally_of (row ∷ rows) x.id ≡ x.tally) r some head
    (lower_rows row rows some (RisesFrom-lower row.id r.id (ids_of some) rises.0 rises.1) (All-tail (λ x. tally_of rows x.id ≡ x.tally) r some all))

pub own_tallies : (rows : List Row) → IsRising (ids_of rows) → All (λ r. tally_of rows r.id ≡ r.tally) rows
own_tallies [] rises = All-nil (λ r. tally_of [] r.id ≡ r.tally)
own_tallies (row ∷ rows) rises =
    let head : tally_of (row ∷ rows) row.id ≡ row.tally = rw (same_itself row.id) refl in
    All-cons (λ r. tally_of (row ∷ rows) r.id ≡ r.tally) row rows head (lower_rows row rows rows rises (own_tallies rows (rises_rest row.id (ids_of rows) rises)))

-- a test of rows that is one of ids
tests_ids : (q : Row → Bool) (p : TxId → Bool) (rows : List Row) → All (λ r. q r ≡ p r.id) rows → ids_of (filter q rows) ≡ filter p (ids_of rows)
tests_ids q p [] all = refl
tests_ids q p (row ∷ rows) all = step (q row) (p row.id) (All-head (λ r. q r ≡ p r.id) row rows all) (tests_ids q p rows (All-tail (λ r. q r ≡ p r.id) row rows all))
  where
    step : (a b : Bool) → a ≡ b → ids_of (filter q rows) ≡ filter p (ids_of rows) → ids_of (cond a (row ∷ filter q rows) (filter q rows)) ≡ cond b (row.id ∷ filter p (ids_of rows)) (filter p (ids_of rows))
    step true true same more = ap (λ ids. row.id ∷ ids) more
    step true false same more = absurd (cc same)
    step false true same more = absurd (cc same)
    step false false same more = more

-- ---- the index has the ids of the holdings

module _ (hs : List Holding) (rows : List Row) (shared : IsShared hs rows) (index : IsIndex rows) (needed : ℕ) (proposing : Bool) where
  agree : All (λ r. wins (voters hs) needed proposing r ≡ next_vote needed proposing (votes_by (voters hs) (total hs r.id))) rows
  agree =
      All-weaker (λ r. tally_of rows r.id ≡ r.tally) (λ r. wins (voters hs) needed proposing r ≡ next_vote needed proposing (votes_by (voters hs) (total hs r.id)))
      (λ r is. ap (λ t. next_vote needed proposing (votes_by (voters hs) t)) (sym is ∙ shared.each r.id)) rows (own_tallies rows index.rising)

  pub picked_are : take 256 (ids_of (filter (wins (voters hs) needed proposing) rows)) ≡ next_of hs needed proposing
  picked_are =
      let p : TxId → Bool = λ tx. next_vote needed proposing (votes_by (voters hs) (total hs tx)) in
      ap (take 256)
      (tests_ids (wins (voters hs) needed proposing) p rows agree
      ∙ same_ids (filter p (ids_of rows)) (rising (filter p (flat_map ids_in hs))) (filter-IsRising p (ids_of rows) index.rising) (IsRising-fold [] (filter p (flat_map ids_in hs)) tt)
      (λ t. has_filter p t (ids_of rows) ∙ ap (λ b. p t && b) (same_members hs rows shared t) ∙ sym (has_filter p t (flat_map ids_in hs)) ∙ sym (has_rising t (filter p (flat_map ids_in hs)))))

pub IsSet-next : (hs : List Holding) (needed : ℕ) (proposing : Bool) → IsSet (next_of hs needed proposing)
IsSet-next hs needed proposing = IsSet-lowest (filter (λ tx. next_vote needed proposing (votes_by (voters hs) (total hs tx))) (flat_map ids_in hs))

-- an id of the lowest is one of all
has_front : (n : ℕ) (ids : List TxId) (tx : TxId) → has (take n ids) tx ≡ true → has ids tx ≡ true
has_front zero ids tx among = absurd (cc among)
has_front (suc n) [] tx among = among
has_front (suc n) (id ∷ ids) tx among = step (is_same id tx) among (has_front n ids tx)
  where
    step : (same : Bool) → (same || has (take n ids) tx) ≡ true → (has (take n ids) tx ≡ true → has ids tx ≡ true) → (same || has ids tx) ≡ true
    step true among more = refl
    step false among more = more among

second : (a b : Bool) → (a && b) ≡ true → b ≡ true
second true b both = both
second false b both = absurd (cc both)

-- each id of our next set is in a set
pub next_counted : (hs : List Holding) (needed : ℕ) (proposing : Bool) (next : List TxId) → next ≡ next_of hs needed proposing → (tx : TxId) → has next tx ≡ true → has (flat_map ids_in hs) tx ≡ true
next_counted hs needed proposing next is tx among =
    let p : TxId → Bool = λ t. next_vote needed proposing (votes_by (voters hs) (total hs t)) in
    let passing : List TxId = filter p (flat_map ids_in hs) in
    second (p tx) (has (flat_map ids_in hs) tx)
    (sym (has_filter p tx (flat_map ids_in hs)) ∙ sym (has_rising tx passing) ∙ has_front 256 (rising passing) tx (ap (λ ids. has ids tx) (sym is) ∙ among))

-- ---- our next set

flat_sets : (hs : List Holding) → flat_map ids_in hs ≡ flat_map (λ set. set) (filter_map (λ s. s) (sets_of hs))
flat_sets [] = refl
flat_sets (h ∷ hs) = step h.set (flat_sets hs)
  where
    step : (set : Option (List TxId)) → flat_map ids_in hs ≡ flat_map (λ s. s) (filter_map (λ s. s) (sets_of hs)) →
        unwrap_or set [] ++ flat_map ids_in hs ≡ flat_map (λ s. s) (filter_map (λ s. s) (set ∷ sets_of hs))
    step None more = more
    step (Some s) more = ap (λ ids. s ++ ids) more

pub next_is : (hs : List Holding) (positions : List (Option SetId)) (needed : ℕ) (proposing : Bool) → IsKept hs positions → length hs ≡ PLACES →
    next_of hs needed proposing ≡ winners (known_of hs positions) needed proposing
next_is hs positions needed proposing kept count =
    ap (λ (v : TxId → Bool). lowest 256 (filter v (flat_map ids_in hs))) (fun_ext (λ tx. ap (next_vote needed proposing) (votes_are hs positions kept count tx)))
    ∙ ap (λ ids. lowest 256 (filter (λ tx. next_vote needed proposing (votes (known_of hs positions) tx)) ids)) (flat_sets hs ∙ ap (flat_map (λ set. set)) (counted_are hs positions kept.own))
