-- Rows in a pool are those of a list, in the order of their names.
use Rattle.std.proofs.Common.{◌≡◌, ◌≢◌, ℕ, zero, suc, ◌+◌, ◌%◌, ◌^◌, ◌<◌, ◌≤◌, true, cond, List, [], ◌∷◌, ◌++◌, length, take, drop, set, get_or, replicate, IsSome, refl, sym, ap, subst, ◌∙◌, arith, drop-cons, length-append}
use Rattle.std.specs.Prelude.{All, Option, Some, None, is_some, unwrap_or}
use Rattle.std.proofs.lemmas.List.{set_split, take-append-drop, length-map, length-set, length-replicate}
use Rattle.std.proofs.lemmas.List.Sums.{sum_by-cons}
use Rattle.std.proofs.lemmas.List.Elements.{All-nil, All-cons, All-head, All-tail, All-take, All-drop, All-append, All-weaker, All-get_or}
use Rattle.xl_base.specs.Sets.{is_below, RisesFrom, IsRising}
use Rattle.xl_pool.specs.Pools.{Slot, empty_slot, get, live, Updates, with_value, without_value}
use Rattle.xl_pool.specs.declared.name.Name.{Name}
use Rattle.xl_disputes.specs.declared.rows.Row.{Row}
use Rattle.xl_disputes.specs.Rows.{ids_of}
use Rattle.xl_disputes.specs.Pooled.{no_row, row_of, rows_of, IsPooled}
use Rattle.xl_pool.proofs.Finding.{Updates-found}
use Rattle.xl_pool.proofs.Counting.{live-found}
use Rattle.xl_disputes.specs.declared.rows.TheConstants.{ROWS}
use Rattle.xl_disputes.proofs.IdOrder.{irreflexive}
use Rattle.xl_disputes.proofs.Exchanging.{RisesFrom-lower, rises_rest}

-- ---- the row of a place

pub row_at : (pool : List (Slot Row)) (order : List Name) (i : ℕ) (d : Name) (e : Row) → i < length order → get_or (rows_of pool order) i e ≡ row_of pool (get_or order i d)
row_at pool [] i d e within = absurd (omega (arith, within))
row_at pool (name ∷ order) zero d e within = refl
row_at pool (name ∷ order) (suc i) d e within = row_at pool order i d e (omega (arith, within))

pub read_row : (pool : List (Slot Row)) (order : List Name) (room i : ℕ) (d : Name) (row : Row) → IsPooled pool order room → i < length order → get pool (get_or order i d) ≡ Some row →
    row ≡ get_or (rows_of pool order) i row
read_row pool order room i d row pooled within found = sym (row_at pool order i d row within ∙ ap (λ o. unwrap_or o no_row) found)

pub is_there : (pool : List (Slot Row)) (order : List Name) (room i : ℕ) (d : Name) → IsPooled pool order room → i < length order → get pool (get_or order i d) ≡ Some (row_of pool (get_or order i d))
is_there pool order room i d pooled within = All-get_or (λ name. get pool name ≡ Some (row_of pool name)) order i d within pooled.there

-- ---- names that find what they found

rows_same : (old new : List (Slot Row)) (order : List Name) → All (λ name. get new name ≡ get old name) order → rows_of new order ≡ rows_of old order
rows_same old new [] all = refl
rows_same old new (name ∷ order) all =
    let head : row_of new name ≡ row_of old name = ap (λ o. unwrap_or o no_row) (All-head (λ n. get new n ≡ get old n) name order all) in
    ap (λ row. row ∷ rows_of new order) head ∙ ap (λ rows. row_of old name ∷ rows) (rows_same old new order (All-tail (λ n. get new n ≡ get old n) name order all))

still_found : (old new : List (Slot Row)) (order : List Name) → All (λ name. get new name ≡ get old name) order → All (λ name. get old name ≡ Some (row_of old name)) order →
    All (λ name. get new name ≡ Some (row_of new name)) order
still_found old new [] same there = All-nil (λ name. get new name ≡ Some (row_of new name))
still_found old new (name ∷ order) same there =
    let head : get new name ≡ get old name = All-head (λ n. get new n ≡ get old n) name order same in
    let found : get old name ≡ Some (row_of old name) = All-head (λ n. get old n ≡ Some (row_of old n)) name order there in
    All-cons (λ n. get new n ≡ Some (row_of new n)) name order (head ∙ found ∙ ap (λ o. Some (unwrap_or o no_row)) (sym head))
    (still_found old new order (All-tail (λ n. get new n ≡ get old n) name order same) (All-tail (λ n. get old n ≡ Some (row_of old n)) name order there))

map_append : (pool : List (Slot Row)) (a b : List Name) → rows_of pool (a ++ b) ≡ rows_of pool a ++ rows_of pool b
map_append pool [] b = refl
map_append pool (name ∷ a) b = ap (λ rows. row_of pool name ∷ rows) (map_append pool a b)

take_rows : (pool : List (Slot Row)) (n : ℕ) (order : List Name) → rows_of pool (take n order) ≡ take n (rows_of pool order)
take_rows pool zero order = refl
take_rows pool (suc n) [] = refl
take_rows pool (suc n) (name ∷ order) = ap (λ rows. row_of pool name ∷ rows) (take_rows pool n order)

drop_rows : (pool : List (Slot Row)) (n : ℕ) (order : List Name) → rows_of pool (drop n order) ≡ drop n (rows_of pool order)
drop_rows pool zero order = refl
drop_rows pool (suc n) [] = refl
drop_rows pool (suc n) (name ∷ order) = drop_rows pool n order

-- ---- different places have different names

below_differs : (pool : List (Slot Row)) (a b : Name) → is_below (row_of pool a).id (row_of pool b).id ≡ true → a ≢ b
below_differs pool a b lower same = absurd (cc (sym lower ∙ ap (λ n. is_below (row_of pool a).id (row_of pool n).id) (sym same) ∙ irreflexive (row_of pool a).id))

first_differs : (pool : List (Slot Row)) (name : Name) (order : List Name) → RisesFrom (row_of pool name).id (ids_of (rows_of pool order)) → All (λ n. n ≢ name) order
first_differs pool name [] rises = All-nil (λ n. n ≢ name)
first_differs pool name (n ∷ order) rises =
    All-cons (λ m. m ≢ name) n order (λ same. below_differs pool name n rises.0 (sym same))
    (first_differs pool name order (RisesFrom-lower (row_of pool name).id (row_of pool n).id (ids_of (rows_of pool order)) rises.0 rises.1))

differs_get : (name : Name) (order : List Name) (i : ℕ) (d : Name) → i < length order → All (λ n. n ≢ name) order → name ≢ get_or order i d
differs_get name order i d within all same = All-get_or (λ n. n ≢ name) order i d within all (sym same)

pub before_differs : (pool : List (Slot Row)) (order : List Name) (i : ℕ) (d : Name) → IsRising (ids_of (rows_of pool order)) → i < length order → All (λ n. n ≢ get_or order i d) (take i order)
before_differs pool [] i d rises within = absurd (omega (arith, within))
before_differs pool (name ∷ order) zero d rises within = All-nil (λ n. n ≢ name)
before_differs pool (name ∷ order) (suc i) d rises within =
    let few : i < length order = omega (arith, within) in
    All-cons (λ n. n ≢ get_or order i d) name (take i order) (differs_get name order i d few (first_differs pool name order rises))
    (before_differs pool order i d (rises_rest (row_of pool name).id (ids_of (rows_of pool order)) rises) few)

pub after_differs : (pool : List (Slot Row)) (order : List Name) (i : ℕ) (d : Name) → IsRising (ids_of (rows_of pool order)) → i < length order → All (λ n. n ≢ get_or order i d) (drop (suc i) order)
after_differs pool [] i d rises within = absurd (omega (arith, within))
after_differs pool (name ∷ order) zero d rises within = first_differs pool name order rises
after_differs pool (name ∷ order) (suc i) d rises within =
    after_differs pool order i d (rises_rest (row_of pool name).id (ids_of (rows_of pool order)) rises) (omega (arith, within))

-- ---- a row is written, put in, taken out

module _ (pool new : List (Slot Row)) (name : Name) (value : Option Row) (updates : Updates pool new name value) where
  pub others_same : (order : List Name) → All (λ n. n ≢ name) order → All (λ n. get new n ≡ get pool n) order
  others_same order differ = All-weaker (λ n. n ≢ name) (λ n. get new n ≡ get pool n) (λ n other. updates.others n other) order differ

module _ (pool new : List (Slot Row)) (order : List Name) (room i : ℕ) (d : Name) (pooled : IsPooled pool order room) (within : i < length order) (rises : IsRising (ids_of (rows_of pool order))) where
  split : order ≡ take i order ++ get_or order i d ∷ drop (suc i) order
  split = sym (take-append-drop i order) ∙ ap (λ xs. take i order ++ xs) (drop-cons order i d within)

  module _ (value : Option Row) (updates : Updates pool new (get_or order i d) value) where
    front : All (λ n. get new n ≡ get pool n) (take i order)
    front = others_same pool new (get_or order i d) value updates (take i order) (before_differs pool order i d rises within)

    back : All (λ n. get new n ≡ get pool n) (drop (suc i) order)
    back = others_same pool new (get_or order i d) value updates (drop (suc i) order) (after_differs pool order i d rises within)

  pub written_rows : (row : Row) → Updates pool new (get_or order i d) (Some row) → rows_of new order ≡ set (rows_of pool order) i row
  written_rows row updates =
      ap (rows_of new) split ∙ map_append new (take i order) (get_or order i d ∷ drop (suc i) order)
      ∙ ap (λ rows. rows ++ row_of new (get_or order i d) ∷ rows_of new (drop (suc i) order)) (rows_same pool new (take i order) (front (Some row) updates) ∙ take_rows pool i order)
      ∙ ap (λ x. take i (rows_of pool order) ++ x ∷ rows_of new (drop (suc i) order)) (ap (λ o. unwrap_or o no_row) updates.changed)
      ∙ ap (λ rows. take i (rows_of pool order) ++ row ∷ rows) (rows_same pool new (drop (suc i) order) (back (Some row) updates) ∙ drop_rows pool (suc i) order)
      ∙ sym (set_split (rows_of pool order) i row (omega (arith, within, length-map order (row_of pool))))

  pub written_there : (row : Row) → Updates pool new (get_or order i d) (Some row) → All (λ name. get new name ≡ Some (row_of new name)) order
  written_there row updates =
      let at : get new (get_or order i d) ≡ Some (row_of new (get_or order i d)) = updates.changed ∙ ap (λ o. Some (unwrap_or o no_row)) (sym updates.changed) in
      subst (All (λ name. get new name ≡ Some (row_of new name))) (sym split)
      (All-append (λ name. get new name ≡ Some (row_of new name)) (take i order) (get_or order i d ∷ drop (suc i) order)
      (still_found pool new (take i order) (front (Some row) updates) (All-take (λ name. get pool name ≡ Some (row_of pool name)) i order pooled.there))
      (All-cons (λ name. get new name ≡ Some (row_of new name)) (get_or order i d) (drop (suc i) order) at
      (still_found pool new (drop (suc i) order) (back (Some row) updates) (All-drop (λ name. get pool name ≡ Some (row_of pool name)) (suc i) order pooled.there))))

  pub removed_rows : Updates pool new (get_or order i d) None → rows_of new (take i order ++ drop (suc i) order) ≡ take i (rows_of pool order) ++ drop (suc i) (rows_of pool order)
  removed_rows updates =
      map_append new (take i order) (drop (suc i) order)
      ∙ ap (λ rows. rows ++ rows_of new (drop (suc i) order)) (rows_same pool new (take i order) (front None updates) ∙ take_rows pool i order)
      ∙ ap (λ rows. take i (rows_of pool order) ++ rows) (rows_same pool new (drop (suc i) order) (back None updates) ∙ drop_rows pool (suc i) order)

  pub removed_there : Updates pool new (get_or order i d) None → All (λ name. get new name ≡ Some (row_of new name)) (take i order ++ drop (suc i) order)
  removed_there updates =
      All-append (λ name. get new name ≡ Some (row_of new name)) (take i order) (drop (suc i) order)
      (still_found pool new (take i order) (front None updates) (All-take (λ name. get pool name ≡ Some (row_of pool name)) i order pooled.there))
      (still_found pool new (drop (suc i) order) (back None updates) (All-drop (λ name. get pool name ≡ Some (row_of pool name)) (suc i) order pooled.there))

-- a new name is none of those that have a row
new_differs : (pool : List (Slot Row)) (name : Name) (order : List Name) → get pool name ≡ None → All (λ n. get pool n ≡ Some (row_of pool n)) order → All (λ n. n ≢ name) order
new_differs pool name order none there =
    All-weaker (λ n. get pool n ≡ Some (row_of pool n)) (λ n. n ≢ name) (λ n found same. absurd (cc (sym found ∙ ap (get pool) same ∙ none))) order there

module _ (pool new : List (Slot Row)) (order : List Name) (room i : ℕ) (name : Name) (row : Row) (pooled : IsPooled pool order room) (none : get pool name ≡ None) (updates : Updates pool new name (Some row)) where
  all_same : All (λ n. get new n ≡ get pool n) order
  all_same = others_same pool new name (Some row) updates order (new_differs pool name order none pooled.there)

  pub inserted_rows : rows_of new (take i order ++ name ∷ drop i order) ≡ take i (rows_of pool order) ++ row ∷ drop i (rows_of pool order)
  inserted_rows =
      map_append new (take i order) (name ∷ drop i order)
      ∙ ap (λ rows. rows ++ row_of new name ∷ rows_of new (drop i order)) (take_rows new i order ∙ ap (take i) (rows_same pool new order all_same))
      ∙ ap (λ x. take i (rows_of pool order) ++ x ∷ rows_of new (drop i order)) (ap (λ o. unwrap_or o no_row) updates.changed)
      ∙ ap (λ rows. take i (rows_of pool order) ++ row ∷ rows) (drop_rows new i order ∙ ap (drop i) (rows_same pool new order all_same))

  pub inserted_there : All (λ n. get new n ≡ Some (row_of new n)) (take i order ++ name ∷ drop i order)
  inserted_there =
      let all : All (λ n. get new n ≡ Some (row_of new n)) order = still_found pool new order all_same pooled.there in
      All-append (λ n. get new n ≡ Some (row_of new n)) (take i order) (name ∷ drop i order) (All-take (λ n. get new n ≡ Some (row_of new n)) i order all)
      (All-cons (λ n. get new n ≡ Some (row_of new n)) name (drop i order) (updates.changed ∙ ap (λ o. Some (unwrap_or o no_row)) (sym updates.changed)) (All-drop (λ n. get new n ≡ Some (row_of new n)) i order all))

-- ---- the first pool

pub none_live : (n : ℕ) → live (replicate {A = Slot Row} n empty_slot) ≡ 0
none_live zero = refl
none_live (suc n) = omega (arith, sum_by-cons (λ (s : Slot Row). cond (is_some s.value) 1 0) empty_slot (replicate {A = Slot Row} n empty_slot), none_live n)

pub first_pooled : (pool : List (Slot Row)) (order : List Name) (room : ℕ) → pool ≡ replicate ROWS empty_slot → order ≡ [] → ROWS ≤ room → IsPooled pool order room
first_pooled pool order room pool_is order_is roomy = record {
  slots = ap length pool_is ∙ length-replicate {A = Slot Row} ROWS empty_slot;
  count = ap live pool_is ∙ none_live ROWS ∙ sym (ap length order_is);
  there = subst (All (λ name. get pool name ≡ Some (row_of pool name))) (sym order_is) (All-nil (λ name. get pool name ≡ Some (row_of pool name)));
  roomy = roomy;
}

-- ---- as the code does it

module _ (pool : List (Slot Row)) (order : List Name) (room place : ℕ) (name : Name) (pooled : IsPooled pool order room) (within : place < length order) (rises : IsRising (ids_of (rows_of pool order))) (is : name ≡ get_or order place name) where
  has_row : IsSome (get pool name)
  has_row = subst IsSome (sym (ap (get pool) is ∙ is_there pool order room place name pooled within)) refl

  module _ (row : Row) where
    set_updates : Updates pool (with_value pool name row) (get_or order place name) (Some row)
    set_updates = subst (λ n. Updates pool (with_value pool name row) n (Some row)) is (Updates-found pool name row has_row)

    pub set_rows : rows_of (with_value pool name row) order ≡ set (rows_of pool order) place row
    set_rows = written_rows pool (with_value pool name row) order room place name pooled within rises row set_updates

    pub set_pooled : IsPooled (with_value pool name row) order room
    set_pooled = record {
      slots = length-set pool name.slot (record { generation = name.generation; value = Some row }) ∙ pooled.slots;
      count = live-found pool name row has_row ∙ pooled.count;
      there = written_there pool (with_value pool name row) order room place name pooled within rises row set_updates;
      roomy = pooled.roomy;
    }

  module _ (new : List (Slot Row)) (after : List Name) (room' : ℕ) (updates : Updates pool new name None) (removed : new ≡ without_value pool name) (fewer : live new + 1 ≡ live pool)
      (after_is : after ≡ take place order ++ drop (suc place) order) (roomy : ROWS ≤ room') where
    gone : Updates pool new (get_or order place name) None
    gone = subst (λ n. Updates pool new n None) is updates

    pub remove_rows : rows_of new after ≡ take place (rows_of pool order) ++ drop (suc place) (rows_of pool order)
    remove_rows = ap (rows_of new) after_is ∙ removed_rows pool new order room place name pooled within rises gone

    pub remove_pooled : IsPooled new after room'
    remove_pooled = record {
      slots = ap length removed ∙ length-set pool name.slot (record { generation = (name.generation + 1) % 2 ^ 32; value = None }) ∙ pooled.slots;
      count =
          let whole : length (take place order) + length (drop (suc place) order) + 1 ≡ length order =
          sym (ap length (split pool new order room place name pooled within rises) ∙ length-append (take place order) (get_or order place name ∷ drop (suc place) order) ∙ omega arith) in
          omega (arith, fewer, pooled.count, whole, ap length after_is, length-append (take place order) (drop (suc place) order));
      there =
          subst (All (λ n. get new n ≡ Some (row_of new n))) (sym after_is) (removed_there pool new order room place name pooled within rises gone);
      roomy = roomy;
    }

module _ (pool : List (Slot Row)) (order : List Name) (room place : ℕ) (name : Name) (row : Row) (pooled : IsPooled pool order room) (new : List (Slot Row)) (after : List Name) (room' : ℕ)
    (none : get pool name ≡ None) (updates : Updates pool new name (Some row)) (added : new ≡ with_value pool name row) (more : live new ≡ live pool + 1)
    (after_is : after ≡ take place order ++ name ∷ drop place order) (roomy : ROWS ≤ room') where
  pub insert_rows : rows_of new after ≡ take place (rows_of pool order) ++ row ∷ drop place (rows_of pool order)
  insert_rows = ap (rows_of new) after_is ∙ inserted_rows pool new order room place name row pooled none updates

  pub insert_pooled : IsPooled new after room'
  insert_pooled = record {
    slots = ap length added ∙ length-set pool name.slot (record { generation = name.generation; value = Some row }) ∙ pooled.slots;
    count =
        let whole : length (take place order) + length (drop place order) ≡ length order = sym (length-append (take place order) (drop place order)) ∙ ap length (take-append-drop place order) in
        omega (arith, more, pooled.count, whole, ap length after_is, length-append (take place order) (name ∷ drop place order));
    there = subst (All (λ n. get new n ≡ Some (row_of new n))) (sym after_is) (inserted_there pool new order room place name row pooled none updates);
    roomy = roomy;
  }
