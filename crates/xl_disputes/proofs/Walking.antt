-- A part goes from the rows of some ids to those of others, in one walk over three lists that rise.
use Rattle.std.proofs.Common.{◌≡◌, ℕ, zero, suc, ◌+◌, ◌<◌, ◌≤◌, ◌||◌, Bool, true, false, cond, List, [], ◌∷◌, ◌++◌, length, map, take, drop, set, get_or, refl, sym, ap, subst, ◌∙◌, arith}
use Rattle.std.specs.Prelude.{All, filter}
use Rattle.std.specs.List.{prefix_len}
use Rattle.std.specs.Str.{bytes_eq}
use Rattle.std.proofs.Math.Bool.{or-true}
use Rattle.std.proofs.lemmas.List.{drop_more, take_all, drop_all, append-nil, length-map, get_or_at, length-take-le}
use Rattle.std.proofs.lemmas.List.Edits.{map_over_more}
use Rattle.std.proofs.lemmas.List.Elements.{All-get_or, All-weaker}
use Rattle.xl_base.specs.Sets.{is_below, IsRising}
use Rattle.xl_base.specs.declared.ids.TxId.{TxId}
use Rattle.xl_disputes.specs.declared.rows.Row.{Row}
use Rattle.xl_disputes.specs.Disputes.{has}
use Rattle.xl_disputes.specs.Tallies.{Tally, no_tally, exchanged, IsWithin, IsFitting, IsWhole}
use Rattle.xl_disputes.specs.Rows.{is_same, ids_of, tally_of, is_held, not_below, is_first, part_of, moved, IsIndex, IsMovable, Moves}
use Rattle.xl_disputes.proofs.IdOrder.{same_itself, same_is}
use Rattle.xl_disputes.proofs.Exchanging.{rises_rest}
use Rattle.xl_disputes.proofs.Passing.{drop_rises, not_lower, passed, found}
use Rattle.xl_disputes.proofs.Picking.{own_tallies}
use Rattle.xl_disputes.proofs.Sharing.{tally_same}
use Rattle.xl_disputes.proofs.Sweeping.{held_rise, held_counted, held_tally}

-- of later ids the rest has those that all have
pub record Passes (all rest later : List TxId) : Type 0 where
  pub still : (t : TxId) → has later t ≡ true → has all t ≡ has rest t
  pub rises : IsRising rest

module _ (all rest : List TxId) (tx : TxId) (later : List TxId) (passes : Passes all rest (tx ∷ later)) (rises : IsRising (tx ∷ later)) where
  next_has : (t : TxId) → has (tx ∷ later) t ≡ true → has all t ≡ has (not_below tx rest) t
  next_has t among = passes.still t among ∙ sym (passed tx t rest (not_lower tx t later (is_below t tx) refl rises among))

  pub among_all : has all tx ≡ is_first tx (not_below tx rest)
  among_all = next_has tx (ap (λ b. b || has later tx) (same_itself tx)) ∙ found tx rest passes.rises

  pub passes_more : Passes all (not_below tx rest) later
  passes_more = record {
    still = λ t among. next_has t (ap (λ b. bytes_eq tx.0 t.0 || b) among ∙ or-true (bytes_eq tx.0 t.0));
    rises = drop_rises (prefix_len (λ id. is_below id tx) rest) rest passes.rises;
  }

-- ---- the walk

-- the first rows have moved, and of both lists the rest is left
pub record IsMoving (old now : List Row) (from to leaving coming : List TxId) (part : Tally) (i : ℕ) : Type 0 where
  pub rows : now ≡ map (moved from to part) (take i old) ++ drop i old
  pub leave : Passes from leaving (ids_of (drop i old))
  pub come : Passes to coming (ids_of (drop i old))

pub moves_none : (old : List Row) (from to : List TxId) (part : Tally) → IsRising from → IsRising to → IsMoving old old from to from to part 0
moves_none old from to part from_rises to_rises = record {
  rows = refl;
  leave = record { still = λ t among. refl; rises = from_rises };
  come = record { still = λ t among. refl; rises = to_rises };
}

ids_stay : (from to : List TxId) (part : Tally) (i : ℕ) (old : List Row) → ids_of (map (moved from to part) (take i old) ++ drop i old) ≡ ids_of old
ids_stay from to part zero old = refl
ids_stay from to part (suc i) [] = refl
ids_stay from to part (suc i) (row ∷ old) = ap (λ ids. row.id ∷ ids) (ids_stay from to part i old)

drop_rows_rise : (n : ℕ) (rows : List Row) → IsRising (ids_of rows) → IsRising (ids_of (drop n rows))
drop_rows_rise zero rows rises = rises
drop_rows_rise (suc n) [] rises = tt
drop_rows_rise (suc n) (row ∷ rows) rises = drop_rows_rise n rows (rises_rest row.id (ids_of rows) rises)

module _ (old now : List Row) (from to leaving coming : List TxId) (part : Tally) (i : ℕ) (moving : IsMoving old now from to leaving coming part i) (rises : IsRising (ids_of old)) where
  pub now_rises : IsRising (ids_of now)
  now_rises = subst IsRising (sym (ap ids_of moving.rows ∙ ids_stay from to part i old)) rises

  pub now_long : length now ≡ length old
  now_long = sym (length-map now (λ (row : Row). row.id)) ∙ ap length (ap ids_of moving.rows ∙ ids_stay from to part i old) ∙ length-map old (λ (row : Row). row.id)

  pub all_moved : length old ≤ i → now ≡ map (moved from to part) old
  all_moved past =
      moving.rows ∙ ap (λ rows. map (moved from to part) rows ++ drop i old) (take_all i old past) ∙ ap (λ rows. map (moved from to part) old ++ rows) (drop_all i old past)
      ∙ append-nil (map (moved from to part) old)

  module _ (row : Row) (within : i < length old) (at : row ≡ get_or now i row) where
    front_long : length (map (moved from to part) (take i old)) ≡ i
    front_long = length-map (take i old) (moved from to part) ∙ length-take-le i old (omega (arith, within))

    pub same : row ≡ get_or old i row
    same =
        at ∙ ap (λ rows. get_or rows i row) (moving.rows ∙ ap (λ rows. map (moved from to part) (take i old) ++ rows) (drop_more old i row within))
        ∙ get_or_at (map (moved from to part) (take i old)) (get_or old i row) (drop (i + 1) old) row i front_long

    behind : drop i old ≡ row ∷ drop (i + 1) old
    behind = drop_more old i row within ∙ ap (λ r. r ∷ drop (i + 1) old) (sym same)

    behind_rises : IsRising (row.id ∷ ids_of (drop (i + 1) old))
    behind_rises = subst (λ rows. IsRising (ids_of rows)) behind (drop_rows_rise i old rises)

    leave : Passes from leaving (row.id ∷ ids_of (drop (i + 1) old))
    leave = subst (λ rows. Passes from leaving (ids_of rows)) behind moving.leave

    come : Passes to coming (row.id ∷ ids_of (drop (i + 1) old))
    come = subst (λ rows. Passes to coming (ids_of rows)) behind moving.come

    -- as the code tests it
    module _ (leaving' coming' : List TxId) (leaves comes : Bool) (out into : Tally) (leaving_is : leaving' ≡ not_below row.id leaving) (coming_is : coming' ≡ not_below row.id coming)
        (leaves_is : leaves ≡ is_first row.id leaving') (comes_is : comes ≡ is_first row.id coming') (out_is : out ≡ cond leaves part no_tally) (into_is : into ≡ cond comes part no_tally) where
      pub out_part : out ≡ part_of from part row.id
      out_part =
          out_is ∙ ap (λ b. cond b part no_tally) (leaves_is ∙ ap (is_first row.id) leaving_is ∙ sym (among_all from leaving row.id (ids_of (drop (i + 1) old)) leave behind_rises))

      pub into_part : into ≡ part_of to part row.id
      into_part =
          into_is ∙ ap (λ b. cond b part no_tally) (comes_is ∙ ap (is_first row.id) coming_is ∙ sym (among_all to coming row.id (ids_of (drop (i + 1) old)) come behind_rises))

      pub out_within : All (λ r. IsWithin (part_of from part r.id) r.tally) old → IsWithin out row.tally
      out_within all =
          subst (λ t. IsWithin t row.tally) (sym out_part)
          (subst (λ (r : Row). IsWithin (part_of from part r.id) r.tally) (sym same) (All-get_or (λ r. IsWithin (part_of from part r.id) r.tally) old i row within all))

      pub both_fit : All (λ r. IsFitting (moved from to part r).tally) old → IsFitting (exchanged out into row.tally)
      both_fit all =
          subst (λ t. IsFitting (exchanged t into row.tally)) (sym out_part) (subst (λ t. IsFitting (exchanged (part_of from part row.id) t row.tally)) (sym into_part)
          (subst (λ (r : Row). IsFitting (moved from to part r).tally) (sym same) (All-get_or (λ r. IsFitting (moved from to part r).tally) old i row within all)))

      pub moves_more : (tally : Tally) (new : List Row) → tally ≡ exchanged out into row.tally → new ≡ set now i (record { id = row.id; tally = tally }) →
          IsMoving old new from to leaving' coming' part (i + 1)
      moves_more tally new tally_is new_is = record {
        rows =
            new_is ∙ ap (λ t. set now i (record { id = row.id; tally = t })) (tally_is ∙ ap (λ t. exchanged t into row.tally) out_part ∙ ap (λ t. exchanged (part_of from part row.id) t row.tally) into_part)
            ∙ map_over_more (moved from to part) old now i row within moving.rows at;
        leave = subst (λ rest. Passes from rest (ids_of (drop (i + 1) old))) (sym leaving_is) (passes_more from leaving row.id (ids_of (drop (i + 1) old)) leave behind_rises);
        come = subst (λ rest. Passes to rest (ids_of (drop (i + 1) old))) (sym coming_is) (passes_more to coming row.id (ids_of (drop (i + 1) old)) come behind_rises);
      }

-- ---- what each id has then

moved_ids : (from to : List TxId) (part : Tally) (rows : List Row) → ids_of (map (moved from to part) rows) ≡ ids_of rows
moved_ids from to part [] = refl
moved_ids from to part (row ∷ rows) = ap (λ ids. row.id ∷ ids) (moved_ids from to part rows)

moved_tally : (from to : List TxId) (part : Tally) (tx : TxId) (rows : List Row) → (has to tx ≡ true → has (ids_of rows) tx ≡ true) →
    tally_of (map (moved from to part) rows) tx ≡ exchanged (part_of from part tx) (part_of to part tx) (tally_of rows tx)
moved_tally from to part tx [] there = none (has to tx) refl
  where
    none : (b : Bool) → b ≡ has to tx → no_tally ≡ exchanged (part_of from part tx) (cond b part no_tally) no_tally
    none true is = absurd (cc (there (sym is)))
    none false is = tally_same no_tally (exchanged (part_of from part tx) no_tally no_tally) (omega arith) (omega arith) (omega arith)
moved_tally from to part tx (row ∷ rows) there = step (is_same row.id tx) refl there (moved_tally from to part tx rows)
  where
    step : (same : Bool) → same ≡ is_same row.id tx → (has to tx ≡ true → (same || has (ids_of rows) tx) ≡ true) →
        ((has to tx ≡ true → has (ids_of rows) tx ≡ true) → tally_of (map (moved from to part) rows) tx ≡ exchanged (part_of from part tx) (part_of to part tx) (tally_of rows tx)) →
        cond same (moved from to part row).tally (tally_of (map (moved from to part) rows) tx)
        ≡ exchanged (part_of from part tx) (part_of to part tx) (cond same row.tally (tally_of rows tx))
    step true is in_it more = ap (λ t. exchanged (part_of from part t) (part_of to part t) row.tally) (same_is row.id tx (sym is))
    step false is in_it more = more in_it

-- ---- as the index has it

module _ (rows : List Row) (from to : List TxId) (part : Tally) (index : IsIndex rows) (movable : IsMovable rows from to part) where
  pub each_within : All (λ r. IsWithin (part_of from part r.id) r.tally) rows
  each_within =
      All-weaker (λ r. tally_of rows r.id ≡ r.tally) (λ r. IsWithin (part_of from part r.id) r.tally)
      (λ r is. subst (IsWithin (part_of from part r.id)) is (movable.within r.id)) rows (own_tallies rows index.rising)

  pub each_fits : All (λ r. IsFitting (moved from to part r).tally) rows
  each_fits =
      All-weaker (λ r. tally_of rows r.id ≡ r.tally) (λ r. IsFitting (moved from to part r).tally)
      (λ r is. subst (λ t. IsFitting (exchanged (part_of from part r.id) (part_of to part r.id) t)) is (movable.fitting r.id)) rows (own_tallies rows index.rising)

  module _ (between : List Row) (is : between ≡ map (moved from to part) rows) where
    pub between_rises : IsRising (ids_of between)
    between_rises = subst IsRising (sym (ap ids_of is ∙ moved_ids from to part rows)) index.rising

    between_tally : (tx : TxId) → tally_of between tx ≡ exchanged (part_of from part tx) (part_of to part tx) (tally_of rows tx)
    between_tally tx = ap (λ rs. tally_of rs tx) is ∙ moved_tally from to part tx rows (movable.there tx)

    pub has_moved : (new : List Row) → new ≡ filter is_held between → Moves rows new from to part
    has_moved new new_is = record {
      index = subst IsIndex (sym new_is) (record { rising = held_rise between between_rises; counted = held_counted between });
      each = λ tx.
          ap (λ rs. tally_of rs tx) new_is
          ∙ held_tally tx between between_rises (subst IsWhole (sym (between_tally tx)) (movable.whole tx)) ∙ between_tally tx;
    }
