-- The votes that the index and the weights tell are the ones of the positions.
use Rattle.std.proofs.Common.{◌≡◌, ℕ, zero, suc, ◌+◌, ◌-◌, ◌≤◌, ◌==◌, ◌||◌, nat_lt, Bool, true, false, not, cond, List, [], ◌∷◌, length, map, get_or, replicate, refl, sym, ap, ◌∙◌, arith}
use Rattle.std.specs.Prelude.{count_by, find, filter_map, unwrap_or, Option, Some, None, option_map}
use Rattle.std.specs.List.{list_any}
use Rattle.std.proofs.lemmas.Bool.Decides.{nat_tests}
use Rattle.std.proofs.lemmas.List.{length-map}
use Rattle.std.proofs.lemmas.List.Sums.{sum_by-cons}
use Rattle.xl_base.specs.declared.ids.TxId.{TxId}
use Rattle.xl_base.specs.declared.ids.SetId.{SetId}
use Rattle.xl_disputes.specs.declared.votes.Votes.{Votes}
use Rattle.xl_disputes.specs.Disputes.{has, is_named, is_yay, is_nay, vote, votes, votes_of, is_counted, counted_sets}
use Rattle.xl_disputes.specs.Holdings.{Holding, member_bits, ids_in, ours_of, amount, total}
use Rattle.xl_disputes.specs.Tallies.{Tally, held_by}
use Rattle.xl_disputes.specs.declared.shares.TheConstants.{PLACES}
use Rattle.xl_disputes.proofs.Sharing.{one_of, some_one, amount_both}
use Rattle.xl_disputes.specs.Standings.{stand, voters, votes_by, own_in, own_ids, known_of, IsKept}
use Rattle.xl_disputes.proofs.Standing.{picked, picked_standings, says, stands_for, amount_picked, both_picked, sets_of}

-- ---- the holdings' sets are the counted ones

pub counted_are : (hs : List Holding) (positions : List (Option SetId)) → own_in hs ≡ Some (own_ids hs) → filter_map (λ s. s) (sets_of hs) ≡ counted_sets (known_of hs positions)
counted_are [] positions own = absurd (cc own)
counted_are (h ∷ hs) positions own = ap (λ s. filter_map (λ x. x) (s ∷ sets_of hs)) own

-- ---- yays and nays

count_same : {A : Type 0} (p q : A → Bool) → ((a : A) → p a ≡ q a) → (as' : List A) → count_by p as' ≡ count_by q as'
count_same p q same [] = refl
count_same p q same (a ∷ as') = omega (arith, sum_by-cons (λ x. cond (p x) 1 0) a as', sum_by-cons (λ x. cond (q x) 1 0) a as', ap {B = ℕ} (λ b. cond b 1 0) (same a), count_same p q same as')

nay_is : (o : Option (List TxId)) (tx : TxId) → is_yay (option_map (λ set. not (has set tx)) o) ≡ is_nay (option_map (λ set. has set tx) o)
nay_is None tx = refl
nay_is (Some set) tx = refl

module _ (hs : List Holding) (positions : List (Option SetId)) (kept : IsKept hs positions) (count : length hs ≡ PLACES) (tx : TxId) where
  found_as : (id : SetId) → find (is_named id) (filter_map (λ s. s) (sets_of hs)) ≡ find (is_named id) (counted_sets (known_of hs positions))
  found_as id = ap (find (is_named id)) (counted_are hs positions kept.own)

  yay_says : (position : Option SetId) → is_yay (says (λ set. has set tx) (sets_of hs) position) ≡ is_yay (vote (known_of hs positions) tx position)
  yay_says None = refl
  yay_says (Some id) = ap (λ o. is_yay (option_map (λ set. has set tx) o)) (found_as id)

  nay_says : (position : Option SetId) → is_yay (says (λ set. not (has set tx)) (sets_of hs) position) ≡ is_nay (vote (known_of hs positions) tx position)
  nay_says None = refl
  nay_says (Some id) =
      nay_is (find (is_named id) (filter_map (λ s. s) (sets_of hs))) tx ∙ ap (λ o. is_nay (option_map (λ set. has set tx) o)) (found_as id)

  picked_by : (test : List TxId → Bool) → picked (map (λ h. test (ids_in h)) hs) (map (λ h. h.weight) hs) ≡ count_by (λ position. is_yay (says test (sets_of hs) position)) positions
  picked_by test =
      ap (picked (map (λ h. test (ids_in h)) hs)) kept.weights ∙ picked_standings hs (map (λ h. test (ids_in h)) hs) positions (length-map hs (λ h. test (ids_in h)) ∙ count)
      ∙ count_same (λ position. get_or (map (λ h. test (ids_in h)) hs) (stand hs position) false) (λ position. is_yay (says test (sets_of hs) position)) (stands_for test hs) positions

  yays_are : (total hs tx).yays ≡ (votes (known_of hs positions) tx).yays
  yays_are =
      amount_picked tx (λ set. has set tx) hs ∙ picked_by (λ set. has set tx)
      ∙ count_same (λ position. is_yay (says (λ set. has set tx) (sets_of hs) position)) (λ position. is_yay (vote (known_of hs positions) tx position)) yay_says positions

  nays_are : voters hs - (total hs tx).yays ≡ (votes (known_of hs positions) tx).nays
  nays_are =
      let nays : picked (map (λ h. not (has (ids_in h) tx)) hs) (map (λ h. h.weight) hs) ≡ (votes (known_of hs positions) tx).nays =
      picked_by (λ set. not (has set tx))
      ∙ count_same (λ position. is_yay (says (λ set. not (has set tx)) (sets_of hs) position)) (λ position. is_nay (vote (known_of hs positions) tx position)) nay_says positions in
      omega (arith, nays, amount_picked tx (λ set. has set tx) hs, both_picked (λ set. has set tx) hs)

-- ---- ours

abbrev first_of : Bool → List Bool → Bool
first_of d [] = d
first_of d (b ∷ bs) = b

abbrev rest_of : List Bool → List Bool
rest_of [] = []
rest_of (b ∷ bs) = bs

no_ours : (tx : TxId) (n : ℕ) (hs : List Holding) → map (λ h. h.bit == 0) hs ≡ replicate n false → amount ours_of tx hs ≡ 0
no_ours tx n [] theirs = refl
no_ours tx zero (h ∷ hs) theirs = absurd (cc theirs)
no_ours tx (suc n) (h ∷ hs) theirs =
    let head : (h.bit == 0) ≡ false = ap (first_of true) theirs in
    let rest : map (λ x. x.bit == 0) hs ≡ replicate n false = ap rest_of theirs in
    omega (arith, sum_by-cons (λ (x : Holding). cond (has (ids_in x) tx) (ours_of x) 0) h hs, no_ours tx n hs rest, nothing (has (ids_in h) tx) (ours_of h) (ap {B = ℕ} (λ b. cond b 1 0) head))
  where
    nothing : (b : Bool) (n : ℕ) → n ≡ 0 → cond b n 0 ≡ 0
    nothing true n none = none
    nothing false n none = refl

-- our own place alone has no bit
pub alone_ours : (hs : List Holding) → map (λ h. h.bit) hs ≡ 0 ∷ member_bits → map (λ h. h.bit == 0) hs ≡ true ∷ replicate 64 false
alone_ours hs bits = tests hs ∙ ap (map (λ bit. bit == 0)) bits
  where
    tests : (xs : List Holding) → map (λ h. h.bit == 0) xs ≡ map (λ bit. bit == 0) (map (λ h. h.bit) xs)
    tests [] = refl
    tests (x ∷ xs) = ap (λ bs. (x.bit == 0) ∷ bs) (tests xs)

pub ours_are : (tx : TxId) (hs : List Holding) → map (λ h. h.bit == 0) hs ≡ true ∷ replicate 64 false → nat_lt 0 (amount ours_of tx hs) ≡ has (own_ids hs) tx
ours_are tx [] ours = absurd (cc ours)
ours_are tx (h ∷ hs) ours =
    let head : (h.bit == 0) ≡ true = ap (first_of false) ours in
    let none : amount ours_of tx hs ≡ 0 = no_ours tx 64 hs (ap rest_of ours) in
    let sum : amount ours_of tx (h ∷ hs) ≡ cond (has (ids_in h) tx) 1 0 =
    omega (arith, sum_by-cons (λ (x : Holding). cond (has (ids_in x) tx) (ours_of x) 0) h hs, none, ap {B = ℕ} (λ b. cond (has (ids_in h) tx) (cond b 1 0) 0) head) in
    ap (nat_lt 0) sum ∙ test (has (ids_in h) tx)
  where
    test : (b : Bool) → nat_lt 0 (cond b 1 0) ≡ b
    test true = refl
    test false = refl

-- ---- all of it

votes_same : (a b : Votes) → a.yays ≡ b.yays → a.nays ≡ b.nays → a.ours ≡ b.ours → a ≡ b
votes_same a b yays nays ours =
    ap (λ x. record { yays = x; nays = a.nays; ours = a.ours }) yays ∙ ap (λ x. record { yays = b.yays; nays = x; ours = a.ours }) nays
    ∙ ap (λ x. record { yays = b.yays; nays = b.nays; ours = x }) ours

module _ (hs : List Holding) (positions : List (Option SetId)) (kept : IsKept hs positions) (count : length hs ≡ PLACES) (tx : TxId) where
  pub votes_are : votes_by (voters hs) (total hs tx) ≡ votes (known_of hs positions) tx
  votes_are =
      votes_same (votes_by (voters hs) (total hs tx)) (votes (known_of hs positions) tx) (yays_are hs positions kept count tx) (nays_are hs positions kept count tx) (ours_are tx hs (alone_ours hs kept.bits))

nothing_more : (n : ℕ) → 0 + n ≡ n
nothing_more n = omega arith

-- an id is counted exactly where a set has it
any_set : (tx : TxId) (hs : List Holding) → nat_lt 0 (amount one_of tx hs) ≡ list_any (λ set. has set tx) (filter_map (λ s. s) (sets_of hs))
any_set tx [] = refl
any_set tx (h ∷ hs) = ap (nat_lt 0) (sum_by-cons (λ (x : Holding). cond (has (ids_in x) tx) (one_of x) 0) h hs) ∙ step h.set (any_set tx hs)
  where
    step : (set : Option (List TxId)) → nat_lt 0 (amount one_of tx hs) ≡ list_any (λ s. has s tx) (filter_map (λ s. s) (sets_of hs)) →
        nat_lt 0 (cond (has (unwrap_or set []) tx) (one_of h) 0 + amount one_of tx hs) ≡ list_any (λ s. has s tx) (filter_map (λ s. s) (set ∷ sets_of hs))
    step None more = ap (nat_lt 0) (nothing_more (amount one_of tx hs)) ∙ more
    step (Some s) more = either (has s tx) more
      where
        either : (b : Bool) → nat_lt 0 (amount one_of tx hs) ≡ list_any (λ x. has x tx) (filter_map (λ x. x) (sets_of hs)) →
            nat_lt 0 (cond b (one_of h) 0 + amount one_of tx hs) ≡ (b || list_any (λ x. has x tx) (filter_map (λ x. x) (sets_of hs)))
        either true more' = let one : 1 ≤ one_of h = some_one h in grind (arith, nat_tests, one)
        either false more' = ap (nat_lt 0) (nothing_more (amount one_of tx hs)) ∙ more'

pub counted_is : (hs : List Holding) (positions : List (Option SetId)) → own_in hs ≡ Some (own_ids hs) → (tx : TxId) → nat_lt 0 (held_by (total hs tx)) ≡ is_counted (known_of hs positions) tx
counted_is hs positions own tx = ap (nat_lt 0) (amount_both tx hs) ∙ any_set tx hs ∙ ap (list_any (λ set. has set tx)) (counted_are hs positions own)

-- ---- as the code tells it

module _ (hs : List Holding) (positions : List (Option SetId)) (kept : IsKept hs positions) (tx : TxId) (tally : Tally) (is : tally ≡ total hs tx) where
  test_is : nat_lt 0 (held_by tally) ≡ is_counted (known_of hs positions) tx
  test_is = ap (λ (t : Tally). nat_lt 0 (held_by t)) is ∙ counted_is hs positions kept.own tx

  module _ (gone : Bool) (gone_is : gone ≡ (held_by tally == 0)) where
    pub told_votes : (n : ℕ) (v : Votes) → n ≡ voters hs → v ≡ votes_by n tally → gone ≡ false → Some v ≡ votes_of (known_of hs positions) tx
    told_votes n v n_is v_is some =
        let counted : is_counted (known_of hs positions) tx ≡ true = sym test_is ∙ grind (arith, nat_tests, gone_is, some) in
        ap Some (v_is ∙ ap (λ m. votes_by m tally) n_is ∙ ap (votes_by (voters hs)) is ∙ votes_are hs positions kept kept.places tx)
        ∙ ap (λ b. cond b (Some (votes (known_of hs positions) tx)) None) (sym counted)

    pub told_none : gone ≡ true → None ≡ votes_of (known_of hs positions) tx
    told_none none =
        let out : is_counted (known_of hs positions) tx ≡ false = sym test_is ∙ grind (arith, nat_tests, gone_is, none) in
        ap (λ b. cond b (Some (votes (known_of hs positions) tx)) None) (sym out)
