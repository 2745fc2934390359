-- The index has what each id has from the holdings, after each change of one of them.
use Rattle.std.proofs.Common.{◌≡◌, ℕ, ◌+◌, ◌-◌, ◌*◌, ◌^◌, ◌<◌, ◌≤◌, ◌==◌, ◌||◌, nat_lt, Bool, true, false, cond, List, [], ◌∷◌, length, set, get_or, refl, sym, ap, subst, ◌∙◌, arith, length-append}
use Rattle.std.specs.Prelude.{sum_by, flat_map, All, Some}
use Rattle.std.proofs.lemmas.Bool.Decides.{nat_tests}
use Rattle.std.proofs.lemmas.List.{length-set, length-map}
use Rattle.std.proofs.lemmas.List.Sums.{sum_by-cons, sum_by-set}
use Rattle.std.proofs.lemmas.List.Elements.{All-nil, All-cons, All-head, All-tail, All-set, All-get_or}
use Rattle.std.proofs.lemmas.List.Folds.{list_any-append}
use Rattle.xl_base.specs.Sets.{IsSet}
use Rattle.xl_base.specs.declared.ids.TxId.{TxId}
use Rattle.xl_disputes.specs.declared.rows.Row.{Row}
use Rattle.xl_disputes.specs.Disputes.{has}
use Rattle.xl_disputes.specs.Tallies.{Tally, no_tally, held_by, exchanged, IsWithin, IsWhole}
use Rattle.xl_disputes.specs.Rising.{rising}
use Rattle.xl_disputes.specs.Rows.{is_same, ids_of, tally_of, IsExchangeable, Exchanges, part_of, IsMovable, Moves}
use Rattle.xl_disputes.specs.Holdings.{Holding, no_holding, with_set, with_weight, ids_in, ours_of, tally_from, amount, total, IsShared}
use Rattle.xl_disputes.specs.declared.shares.TheConstants.{PLACES}
use Rattle.xl_disputes.proofs.Exchanging.{Counted}
use Rattle.xl_disputes.proofs.RisingIds.{IsRising-fold}
use Rattle.xl_disputes.proofs.Extending.{same_ids, has_rising, rising_length}

-- ---- sums over the holdings

abbrev given : (Holding → ℕ) → TxId → Holding → ℕ
given f tx h = cond (has (ids_in h) tx) (f h) 0

-- without the one at a place
abbrev others : List Holding → ℕ → List Holding
others hs place = set hs place (no_holding 0)

without_one : (f : Holding → ℕ) (tx : TxId) (hs : List Holding) (place : ℕ) (d : Holding) → place < length hs →
    amount f tx (others hs place) + given f tx (get_or hs place d) ≡ amount f tx hs
without_one f tx hs place d within = omega (arith, sum_by-set (given f tx) hs place (no_holding 0) d within)

-- each gives its ids something
abbrev pub one_of : Holding → ℕ
one_of h = h.bit + ours_of h

pub some_one : (h : Holding) → 1 ≤ one_of h
some_one h = step (h.bit == 0) refl
  where
    step : (b : Bool) → b ≡ (h.bit == 0) → 1 ≤ h.bit + cond b 1 0
    step true is = omega arith
    step false is = grind (arith, nat_tests, is)

pub amount_both : (tx : TxId) (hs : List Holding) → held_by (total hs tx) ≡ amount one_of tx hs
amount_both tx [] = refl
amount_both tx (h ∷ hs) =
    omega (
      arith,
      sum_by-cons (given (λ x. x.bit) tx) h hs,
      sum_by-cons (given ours_of tx) h hs,
      sum_by-cons (given one_of tx) h hs,
      spread (has (ids_in h) tx),
      amount_both tx hs,
    )
  where
    spread : (b : Bool) → cond b (one_of h) 0 ≡ cond b h.bit 0 + cond b (ours_of h) 0
    spread true = refl
    spread false = refl

-- who is in no set has nothing
no_amount : (f : Holding → ℕ) (tx : TxId) (hs : List Holding) → amount one_of tx hs ≡ 0 → amount f tx hs ≡ 0
no_amount f tx [] none = refl
no_amount f tx (h ∷ hs) none = step (has (ids_in h) tx) refl (no_amount f tx hs)
  where
    step : (b : Bool) → b ≡ has (ids_in h) tx → (amount one_of tx hs ≡ 0 → amount f tx hs ≡ 0) → amount f tx (h ∷ hs) ≡ 0
    step true is more =
        let one : given one_of tx h ≡ one_of h = ap (λ c. cond c (one_of h) 0) (sym is) in
        absurd (omega (arith, none, sum_by-cons (given one_of tx) h hs, one, some_one h))
    step false is more =
        let nothing : given one_of tx h ≡ 0 = ap (λ c. cond c (one_of h) 0) (sym is) in
        let nothing' : given f tx h ≡ 0 = ap (λ c. cond c (f h) 0) (sym is) in
        omega (arith, nothing', sum_by-cons (given f tx) h hs, more (omega (arith, none, nothing, sum_by-cons (given one_of tx) h hs)))

-- an id has no more than all give
amount_within : (f : Holding → ℕ) (tx : TxId) (hs : List Holding) → amount f tx hs ≤ sum_by f hs
amount_within f tx [] = omega arith
amount_within f tx (h ∷ hs) = omega (arith, sum_by-cons (given f tx) h hs, sum_by-cons f h hs, most (has (ids_in h) tx), amount_within f tx hs)
  where
    most : (b : Bool) → cond b (f h) 0 ≤ f h
    most true = omega arith
    most false = omega arith

amount_most : (f : Holding → ℕ) (m : ℕ) (tx : TxId) (hs : List Holding) → All (λ h. f h ≤ m) hs → amount f tx hs ≤ length hs * m
amount_most f m tx [] all = omega arith
amount_most f m tx (h ∷ hs) all =
    omega (arith, sum_by-cons (given f tx) h hs, most (has (ids_in h) tx), amount_most f m tx hs (All-tail (λ x. f x ≤ m) h hs all))
  where
    most : (b : Bool) → cond b (f h) 0 ≤ m
    most true = All-head (λ x. f x ≤ m) h hs all
    most false = omega arith

lengths_most : (hs : List Holding) → All (λ h. IsSet (ids_in h)) hs → sum_by (λ h. length (ids_in h)) hs ≤ length hs * 256
lengths_most [] all = omega arith
lengths_most (h ∷ hs) all =
    omega (arith, sum_by-cons (λ (x : Holding). length (ids_in x)) h hs, (All-head (λ x. IsSet (ids_in x)) h hs all).at_most, lengths_most hs (All-tail (λ x. IsSet (ids_in x)) h hs all))

ours_one : (h : Holding) → ours_of h ≤ 1
ours_one h = most (h.bit == 0)
  where
    most : (b : Bool) → cond b 1 0 ≤ 1
    most true = omega arith
    most false = omega arith

ours_most : (hs : List Holding) → All (λ h. ours_of h ≤ 1) hs
ours_most [] = All-nil (λ h. ours_of h ≤ 1)
ours_most (h ∷ hs) = All-cons (λ x. ours_of x ≤ 1) h hs (ours_one h) (ours_most hs)

pub tally_same : (a b : Tally) → a.members ≡ b.members → a.yays ≡ b.yays → a.ours ≡ b.ours → a ≡ b
tally_same a b members yays ours =
    ap (λ x. record { members = x; yays = a.yays; ours = a.ours }) members ∙ ap (λ x. record { members = b.members; yays = x; ours = a.ours }) yays
    ∙ ap (λ x. record { members = b.members; yays = b.yays; ours = x }) ours

-- what an id has from one holding
abbrev pub part : Holding → TxId → Tally
part h tx = cond (has (ids_in h) tx) (tally_from h) no_tally

field : (b : Bool) (f : Tally → ℕ) (t : Tally) → f no_tally ≡ 0 → cond b (f t) 0 ≡ f (cond b t no_tally)
field true f t none = refl
field false f t none = sym none

-- ---- there are no more rows than ids in the sets

has_rows : (t : TxId) (rows : List Row) → All Counted rows → has (ids_of rows) t ≡ nat_lt 0 (held_by (tally_of rows t))
has_rows t [] all = refl
has_rows t (row ∷ rows) all = step (is_same row.id t) (has_rows t rows (All-tail Counted row rows all))
  where
    some : nat_lt 0 (held_by row.tally) ≡ true
    some = let more : 0 < held_by row.tally = All-head Counted row rows all in grind (arith, nat_tests, more)

    step : (b : Bool) → has (ids_of rows) t ≡ nat_lt 0 (held_by (tally_of rows t)) → (b || has (ids_of rows) t) ≡ nat_lt 0 (held_by (cond b row.tally (tally_of rows t)))
    step true more = sym some
    step false more = more

has_holdings : (t : TxId) (hs : List Holding) → has (flat_map ids_in hs) t ≡ nat_lt 0 (amount one_of t hs)
has_holdings t [] = refl
has_holdings t (h ∷ hs) =
    list_any-append (λ id. is_same id t) (ids_in h) (flat_map ids_in hs) ∙ step (has (ids_in h) t) (has_holdings t hs)
    ∙ ap (nat_lt 0) (sym (sum_by-cons (given one_of t) h hs))
  where
    step : (b : Bool) → has (flat_map ids_in hs) t ≡ nat_lt 0 (amount one_of t hs) → (b || has (flat_map ids_in hs) t) ≡ nat_lt 0 (cond b (one_of h) 0 + amount one_of t hs)
    step true more = let one : 1 ≤ one_of h = some_one h in grind (arith, nat_tests, one)
    step false more = more ∙ ap (nat_lt 0) (plus (amount one_of t hs))
      where
        plus : (n : ℕ) → n ≡ 0 + n
        plus n = omega arith

pub same_members : (hs : List Holding) (rows : List Row) → IsShared hs rows → (t : TxId) → has (ids_of rows) t ≡ has (flat_map ids_in hs) t
same_members hs rows shared t =
    has_rows t rows shared.index.counted ∙ ap (λ (x : Tally). nat_lt 0 (held_by x)) (shared.each t) ∙ ap (nat_lt 0) (amount_both t hs) ∙ sym (has_holdings t hs)

flat_length : (hs : List Holding) → length (flat_map ids_in hs) ≡ sum_by (λ h. length (ids_in h)) hs
flat_length [] = refl
flat_length (h ∷ hs) = omega (arith, length-append (ids_in h) (flat_map ids_in hs), sum_by-cons (λ (x : Holding). length (ids_in x)) h hs, flat_length hs)

rows_most : (hs : List Holding) (rows : List Row) → IsShared hs rows → length rows ≤ sum_by (λ h. length (ids_in h)) hs
rows_most hs rows shared =
    let ids : List TxId = flat_map ids_in hs in
    let same : ids_of rows ≡ rising ids =
    same_ids (ids_of rows) (rising ids) shared.index.rising (IsRising-fold [] ids tt) (λ t. same_members hs rows shared t ∙ sym (has_rising t ids)) in
    omega (arith, length-map rows (λ (row : Row). row.id), ap length same, rising_length ids, flat_length hs)

-- ---- what can be exchanged

module _ (hs : List Holding) (rows : List Row) (shared : IsShared hs rows) where
  most_members : (tx : TxId) → (tally_of rows tx).members < 2 ^ 64
  most_members tx = omega (arith, ap (λ (t : Tally). t.members) (shared.each tx), amount_within (λ h. h.bit) tx hs, shared.bits)

  most_yays : (tx : TxId) → (tally_of rows tx).yays ≤ PLACES * 64
  most_yays tx = omega (arith, ap (λ (t : Tally). t.yays) (shared.each tx), amount_most (λ h. h.weight) 64 tx hs shared.few, shared.count)

  most_ours : (tx : TxId) → (tally_of rows tx).ours ≤ PLACES
  most_ours tx = omega (arith, ap (λ (t : Tally). t.ours) (shared.each tx), amount_most ours_of 1 tx hs (ours_most hs), shared.count)

  module _ (place : ℕ) (d : Holding) (h : Holding) (there : place < PLACES) (at : h ≡ get_or hs place d) where
    inside : place < length hs
    inside = omega (arith, there, shared.count)

    -- what an id has from the others and from this one
    sum_of : (f : Holding → ℕ) (tx : TxId) → amount f tx (others hs place) + given f tx h ≡ amount f tx hs
    sum_of f tx = ap (λ x. amount f tx (others hs place) + given f tx x) at ∙ without_one f tx hs place d inside

    pub weight_most : h.weight ≤ 64
    weight_most = subst (λ (x : Holding). x.weight ≤ 64) (sym at) (All-get_or (λ x. x.weight ≤ 64) hs place d inside shared.few)

    -- what an id of its set has from it
    given_yes : (f : Holding → ℕ) (tx : TxId) → has (ids_in h) tx ≡ true → given f tx h ≡ f h
    given_yes f tx yes' = ap (λ b. cond b (f h) 0) yes'

    given_none : (f : Holding → ℕ) (tx : TxId) → ids_in h ≡ [] → given f tx h ≡ 0
    given_none f tx free = ap (λ xs. cond (has xs tx) (f h) 0) free

    its_part : (tx : TxId) → has (ids_in h) tx ≡ true → IsWithin (tally_from h) (tally_of rows tx)
    its_part tx in_it = record {
      members = omega (arith, ap (λ (t : Tally). t.members) (shared.each tx), sum_of (λ x. x.bit) tx, given_yes (λ x. x.bit) tx in_it);
      yays = omega (arith, ap (λ (t : Tally). t.yays) (shared.each tx), sum_of (λ x. x.weight) tx, given_yes (λ x. x.weight) tx in_it);
      ours = omega (arith, ap (λ (t : Tally). t.ours) (shared.each tx), sum_of ours_of tx, given_yes ours_of tx in_it);
    }

    -- without its part an id of no other set has nothing
    all_its : (tx : TxId) → has (ids_in h) tx ≡ true → IsWhole (exchanged (tally_from h) no_tally (tally_of rows tx))
    all_its tx in_it gone =
        let part_in : IsWithin (tally_from h) (tally_of rows tx) = its_part tx in_it in
        let all : held_by (tally_of rows tx) ≡ amount one_of tx hs = ap held_by (shared.each tx) ∙ amount_both tx hs in
        let alone : amount one_of tx (others hs place) ≡ 0 = omega (arith, gone, all, part_in.members, part_in.ours, sum_of one_of tx, given_yes one_of tx in_it) in
        tally_same (exchanged (tally_from h) no_tally (tally_of rows tx)) no_tally (omega (arith, gone))
        (omega (arith, ap (λ (t : Tally). t.yays) (shared.each tx), sum_of (λ x. x.weight) tx, given_yes (λ x. x.weight) tx in_it, no_amount (λ x. x.weight) tx (others hs place) alone))
        (omega (arith, gone))

    pub can_release : IsExchangeable rows (ids_in h) (tally_from h) no_tally
    can_release = record {
      within = its_part;
      fitting = λ tx in_it. record { members = omega (arith, most_members tx); yays = omega (arith, most_yays tx); ours = omega (arith, most_ours tx) };
      whole = all_its;
      room = λ none. absurd (omega (arith, none, some_one h));
    }

    pub can_weigh : (weight : ℕ) → weight ≤ 64 → IsExchangeable rows (ids_in h) (tally_from h) (tally_from (with_weight weight h))
    can_weigh weight few = record {
      within = its_part;
      fitting = λ tx in_it.
          let part_in : IsWithin (tally_from h) (tally_of rows tx) = its_part tx in_it in
          record { members = omega (arith, part_in.members, most_members tx); yays = omega (arith, few, most_yays tx); ours = omega (arith, part_in.ours, most_ours tx) };
      whole = λ tx in_it gone. absurd (omega (arith, gone, some_one h));
      room = λ none. absurd (omega (arith, none, some_one h));
    }

    pub can_fill : (ids : List TxId) → ids_in h ≡ [] → IsSet ids → IsExchangeable rows ids no_tally (tally_from h)
    can_fill ids free set' = record {
      within = λ tx in_it. record { members = omega arith; yays = omega arith; ours = omega arith };
      fitting = λ tx in_it. record {
        members =
            let without : amount (λ x. x.bit) tx (others hs place) ≡ amount (λ x. x.bit) tx hs = omega (arith, sum_of (λ x. x.bit) tx, given_none (λ x. x.bit) tx free) in
            let rest : sum_by (λ x. x.bit) (others hs place) + h.bit ≡ sum_by (λ x. x.bit) hs =
            ap (λ (x : Holding). sum_by (λ y. y.bit) (others hs place) + x.bit) at ∙ omega (arith, sum_by-set (λ x. x.bit) hs place (no_holding 0) d inside) in
            omega (arith, ap (λ (t : Tally). t.members) (shared.each tx), without, rest, amount_within (λ x. x.bit) tx (others hs place), shared.bits);
        yays = omega (arith, weight_most, most_yays tx);
        ours = omega (arith, ours_one h, most_ours tx);
      };
      whole = λ tx in_it gone. absurd (omega (arith, gone, some_one h));
      room = λ none.
          let filled : List Holding = set hs place (with_set (Some ids) h) in
          let sets : All (λ x. IsSet (ids_in x)) filled = All-set (λ x. IsSet (ids_in x)) hs place (with_set (Some ids) h) set' shared.sets in
          let more : sum_by (λ x. length (ids_in x)) filled + length (ids_in (get_or hs place d)) ≡ sum_by (λ x. length (ids_in x)) hs + length ids =
          sum_by-set (λ x. length (ids_in x)) hs place (with_set (Some ids) h) d inside in
          let nothing_in : length (ids_in (get_or hs place d)) ≡ 0 = ap (λ (x : Holding). length (ids_in x)) (sym at) ∙ ap length free in
          omega (arith, more, nothing_in, lengths_most filled sets, length-set hs place (with_set (Some ids) h), shared.count, rows_most hs rows shared);
    }

    -- ---- the holding takes another set, of ids that are there
    module _ (ids : List TxId) (valid : IsSet ids) (counted : (tx : TxId) → has ids tx ≡ true → has (flat_map ids_in hs) tx ≡ true) where
      -- what an id has from the set that comes
      abbrev coming : TxId → Tally
      coming tx = part_of ids (tally_from h) tx

      as_given : (g : Tally → ℕ) (f : Holding → ℕ) (tx : TxId) (x : Holding) → f x ≡ g (tally_from x) → g no_tally ≡ 0 → given f tx x ≡ g (part x tx)
      as_given g f tx x is none = ap (λ n. cond (has (ids_in x) tx) n 0) is ∙ field (has (ids_in x) tx) g (tally_from x) none

      members_in : (tx : TxId) → amount (λ x. x.bit) tx (others hs place) + (part h tx).members ≡ (tally_of rows tx).members
      members_in tx = omega (arith, ap (λ (t : Tally). t.members) (shared.each tx), sum_of (λ x. x.bit) tx, as_given (λ t. t.members) (λ x. x.bit) tx h refl refl)

      yays_in : (tx : TxId) → amount (λ x. x.weight) tx (others hs place) + (part h tx).yays ≡ (tally_of rows tx).yays
      yays_in tx = omega (arith, ap (λ (t : Tally). t.yays) (shared.each tx), sum_of (λ x. x.weight) tx, as_given (λ t. t.yays) (λ x. x.weight) tx h refl refl)

      ours_in : (tx : TxId) → amount ours_of tx (others hs place) + (part h tx).ours ≡ (tally_of rows tx).ours
      ours_in tx = omega (arith, ap (λ (t : Tally). t.ours) (shared.each tx), sum_of ours_of tx, as_given (λ t. t.ours) ours_of tx h refl refl)

      most_coming : (g : Tally → ℕ) (tx : TxId) → g no_tally ≡ 0 → g (coming tx) ≤ g (tally_from h)
      most_coming g tx none = most (has ids tx)
        where
          most : (b : Bool) → g (cond b (tally_from h) no_tally) ≤ g (tally_from h)
          most true = omega arith
          most false = omega (arith, none)

      -- what comes says nothing where it is in no set
      nothing_coming : (tx : TxId) → held_by (coming tx) ≡ 0 → (coming tx).yays ≡ 0
      nothing_coming tx = step (has ids tx)
        where
          step : (b : Bool) → held_by (cond b (tally_from h) no_tally) ≡ 0 → (cond b (tally_from h) no_tally).yays ≡ 0
          step true none = absurd (omega (arith, none, some_one h))
          step false none = refl

      all_bits : sum_by (λ x. x.bit) (others hs place) + h.bit ≡ sum_by (λ x. x.bit) hs
      all_bits = ap (λ (x : Holding). sum_by (λ y. y.bit) (others hs place) + x.bit) at ∙ omega (arith, sum_by-set (λ x. x.bit) hs place (no_holding 0) d inside)

      pub can_replace : IsMovable rows (ids_in h) ids (tally_from h)
      can_replace = record {
        there = λ tx in_it. same_members hs rows shared tx ∙ counted tx in_it;
        within = λ tx. record { members = omega (arith, members_in tx); yays = omega (arith, yays_in tx); ours = omega (arith, ours_in tx) };
        fitting = λ tx. record {
          members = omega (arith, members_in tx, most_coming (λ t. t.members) tx refl, amount_within (λ x. x.bit) tx (others hs place), all_bits, shared.bits);
          yays = omega (arith, yays_in tx, most_coming (λ t. t.yays) tx refl, weight_most, most_yays tx);
          ours = omega (arith, ours_in tx, most_coming (λ t. t.ours) tx refl, ours_one h, most_ours tx);
        };
        whole = λ tx gone.
            let alone : amount one_of tx (others hs place) ≡ 0 = sym (amount_both tx (others hs place)) ∙ omega (arith, gone, members_in tx, ours_in tx) in
            let none : (coming tx).yays ≡ 0 = nothing_coming tx (omega (arith, gone, members_in tx, ours_in tx)) in
            tally_same (exchanged (part h tx) (coming tx) (tally_of rows tx)) no_tally (omega (arith, gone))
            (omega (arith, none, yays_in tx, no_amount (λ x. x.weight) tx (others hs place) alone)) (omega (arith, gone));
      }

      pub still_shared_with : (new : List Row) → Moves rows new (ids_in h) ids (tally_from h) → IsShared (set hs place (with_set (Some ids) h)) new
      still_shared_with new moves = record {
        count = length-set hs place (with_set (Some ids) h) ∙ shared.count;
        sets = All-set (λ x. IsSet (ids_in x)) hs place (with_set (Some ids) h) valid shared.sets;
        few = All-set (λ x. x.weight ≤ 64) hs place (with_set (Some ids) h) weight_most shared.few;
        bits = omega (arith, sum_by-set (λ x. x.bit) hs place (with_set (Some ids) h) d inside, all_bits, sum_by-set (λ x. x.bit) hs place (no_holding 0) d inside, shared.bits);
        index = moves.index;
        each = λ tx.
            tally_same (tally_of new tx) (total (set hs place (with_set (Some ids) h)) tx)
            (omega (arith, ap (λ (t : Tally). t.members) (moves.each tx), members_in tx, moved_to (λ x. x.bit) tx, sum_of (λ x. x.bit) tx, as_given (λ t. t.members) (λ x. x.bit) tx h refl refl, as_given (λ t. t.members) (λ x. x.bit) tx (with_set (Some ids) h) refl refl))
            (omega (arith, ap (λ (t : Tally). t.yays) (moves.each tx), yays_in tx, moved_to (λ x. x.weight) tx, sum_of (λ x. x.weight) tx, as_given (λ t. t.yays) (λ x. x.weight) tx h refl refl, as_given (λ t. t.yays) (λ x. x.weight) tx (with_set (Some ids) h) refl refl))
            (omega (arith, ap (λ (t : Tally). t.ours) (moves.each tx), ours_in tx, moved_to ours_of tx, sum_of ours_of tx, as_given (λ t. t.ours) ours_of tx h refl refl, as_given (λ t. t.ours) ours_of tx (with_set (Some ids) h) refl refl));
      }
        where
          moved_to : (f : Holding → ℕ) (tx : TxId) → amount f tx (set hs place (with_set (Some ids) h)) + given f tx h ≡ amount f tx hs + given f tx (with_set (Some ids) h)
          moved_to f tx = ap (λ x. amount f tx (set hs place (with_set (Some ids) h)) + given f tx x) at ∙ sum_by-set (given f tx) hs place (with_set (Some ids) h) d inside

    -- ---- the index after the holding has changed
    module _ (new : List Row) (ids : List TxId) (from to : Tally) (h' : Holding) (done : Exchanges rows new ids from to)
        (part_yes : (tx : TxId) → has ids tx ≡ true → (part h tx ≡ from) × (part h' tx ≡ to)) (part_no : (tx : TxId) → has ids tx ≡ false → part h tx ≡ part h' tx)
        (sets' : IsSet (ids_in h')) (few' : h'.weight ≤ 64) (same_bit : h'.bit ≡ h.bit) where
      after : List Holding
      after = set hs place h'

      moved : (f : Holding → ℕ) (tx : TxId) → amount f tx (set hs place h') + given f tx h ≡ amount f tx hs + given f tx h'
      moved f tx = ap (λ x. amount f tx (set hs place h') + given f tx x) at ∙ sum_by-set (given f tx) hs place h' d inside

      -- one part of the tally
      as_part : (g : Tally → ℕ) (f : Holding → ℕ) (tx : TxId) (x : Holding) → ((y : Holding) → f y ≡ g (tally_from y)) → g no_tally ≡ 0 → given f tx x ≡ g (part x tx)
      as_part g f tx x is none = ap (λ n. cond (has (ids_in x) tx) n 0) (is x) ∙ field (has (ids_in x) tx) g (tally_from x) none

      each_part : (g : Tally → ℕ) (f : Holding → ℕ) (tx : TxId) → ((y : Holding) → f y ≡ g (tally_from y)) → g no_tally ≡ 0 → g (tally_of rows tx) ≡ amount f tx hs →
          ((x : Tally) → g (exchanged from to x) ≡ g x - g from + g to) → g (tally_of new tx) ≡ amount f tx (set hs place h')
      each_part g f tx is none before spread = step (has ids tx) refl
        where
          step : (b : Bool) → b ≡ has ids tx → g (tally_of new tx) ≡ amount f tx (set hs place h')
          step true in_it =
              let parts = part_yes tx (sym in_it) in
              let now : tally_of new tx ≡ exchanged from to (tally_of rows tx) = done.each tx ∙ ap (λ b. cond b (exchanged from to (tally_of rows tx)) (tally_of rows tx)) (sym in_it) in
              omega (arith, ap g now, spread (tally_of rows tx), before, moved f tx, sum_of f tx, as_part g f tx h is none, as_part g f tx h' is none, ap g parts.0, ap g parts.1)
          step false out =
              let now : tally_of new tx ≡ tally_of rows tx = done.each tx ∙ ap (λ b. cond b (exchanged from to (tally_of rows tx)) (tally_of rows tx)) (sym out) in
              omega (arith, ap g now, before, moved f tx, as_part g f tx h is none, as_part g f tx h' is none, ap g (part_no tx (sym out)))

      pub still_shared : IsShared (set hs place h') new
      still_shared = record {
        count = length-set hs place h' ∙ shared.count;
        sets = All-set (λ x. IsSet (ids_in x)) hs place h' sets' shared.sets;
        few = All-set (λ x. x.weight ≤ 64) hs place h' few' shared.few;
        each = λ tx.
            tally_same (tally_of new tx) (total (set hs place h') tx)
            (each_part (λ t. t.members) (λ x. x.bit) tx (λ _. refl) refl (ap (λ (t : Tally). t.members) (shared.each tx)) (λ _. refl))
            (each_part (λ t. t.yays) (λ x. x.weight) tx (λ _. refl) refl (ap (λ (t : Tally). t.yays) (shared.each tx)) (λ _. refl))
            (each_part (λ t. t.ours) ours_of tx (λ _. refl) refl (ap (λ (t : Tally). t.ours) (shared.each tx)) (λ _. refl));
        bits =
            let sum : sum_by (λ x. x.bit) (set hs place h') + h.bit ≡ sum_by (λ x. x.bit) hs + h'.bit =
            ap (λ (x : Holding). sum_by (λ y. y.bit) (set hs place h') + x.bit) at ∙ sum_by-set (λ x. x.bit) hs place h' d inside in
            omega (arith, sum, same_bit, shared.bits);
        index = done.index;
      }
