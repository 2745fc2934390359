-- All that was pushed stays accounted for, whatever a call does.
use Rattle.std.proofs.Common.{◌≡◌, ℕ, ◌+◌, cond, not, nat_lt, Bool, true, false, List, [], ◌∷◌, ◌++◌, Option, map, filter, count_by, length, ◌==◌, drop, slice_get, option_to_list, sym, ap, ◌∙◌, append_assoc, append-nil, arith}
use Rattle.std.proofs.lemmas.Bool.Decides.{nat_tests}
use Rattle.std.proofs.lemmas.List.{map-append}
use Rattle.std.proofs.lemmas.List.Elements.{filter-append}
use Rattle.std.proofs.lemmas.List.Sums.{sum_by-append}
use Rattle.xl_base.specs.Counts.{one_more}
use Rattle.xl_queues.specs.Queues.{Backlog, with_item, without_first, passed_over}
use Rattle.xl_queues.specs.Accounts.{Gone, IsAccounted, Accounts}

module _ {T : Type 0} where
  holding : List T → ℕ → Backlog T
  holding items lost = record { items = items; lost = lost }

  -- an item came
  came : (before out items : List T) (lost : ℕ) (item : T) → IsAccounted before out (holding items lost) → IsAccounted (before ++ item ∷ []) out (holding (items ++ item ∷ []) lost)
  unfolding holding
  came before out items lost item was = record {
    gone = was.gone;
    in_order = ap (λ xs. xs ++ item ∷ []) was.in_order ∙ append_assoc (map (λ g. g.item) was.gone) items (item ∷ []);
    handed_out = was.handed_out;
    counted = was.counted;
  }

  -- what was pushed, with the first of the held items gone
  moved : (before rest : List T) (gone : List (Gone T)) (g : Gone T) → before ≡ map (λ g. g.item) gone ++ (g.item ∷ rest) → before ≡ map (λ g. g.item) (gone ++ g ∷ []) ++ rest
  moved before rest gone g was = was ∙ sym (ap (λ xs. xs ++ rest) (map-append (λ (g : Gone T). g.item) gone (g ∷ [])) ∙ append_assoc (map (λ g. g.item) gone) (g.item ∷ []) rest)

  -- the oldest item was taken
  taken_one : (before out rest : List T) (lost : ℕ) (item : T) → IsAccounted before out (holding (item ∷ rest) lost) → IsAccounted before (out ++ item ∷ []) (holding rest lost)
  unfolding holding
  taken_one before out rest lost item was =
      let g : Gone T = record { item = item; taken = true } in
      let same : count_by (λ (g : Gone T). not g.taken) (was.gone ++ g ∷ []) ≡ count_by (λ (g : Gone T). not g.taken) was.gone + 0 = sum_by-append (λ (g : Gone T). cond (not g.taken) 1 0) was.gone (g ∷ []) in
      record {
        gone = was.gone ++ g ∷ [];
        in_order = moved before rest was.gone g was.in_order;
        handed_out = ap (λ xs. xs ++ item ∷ []) was.handed_out
            ∙ sym (ap (map (λ g. g.item)) (filter-append (λ (g : Gone T). g.taken) was.gone (g ∷ [])) ∙ map-append (λ (g : Gone T). g.item) (filter (λ g. g.taken) was.gone) (g ∷ []));
        counted = omega (arith, same, was.counted);
      }

  -- the oldest item was lost
  lost_one : (before out rest : List T) (lost : ℕ) (item : T) → IsAccounted before out (holding (item ∷ rest) lost) → IsAccounted before out (holding rest (one_more lost))
  unfolding holding
  lost_one before out rest lost item was =
      let g : Gone T = record { item = item; taken = false } in
      let more : count_by (λ (g : Gone T). not g.taken) (was.gone ++ g ∷ []) ≡ count_by (λ (g : Gone T). not g.taken) was.gone + 1 = sum_by-append (λ (g : Gone T). cond (not g.taken) 1 0) was.gone (g ∷ []) in
      record {
        gone = was.gone ++ g ∷ [];
        in_order = moved before rest was.gone g was.in_order;
        handed_out = was.handed_out
            ∙ sym (ap (map (λ g. g.item)) (filter-append (λ (g : Gone T). g.taken) was.gone (g ∷ []) ∙ append-nil (filter (λ g. g.taken) was.gone)));
        counted = omega (arith, more, was.counted);
      }

  -- an item came, and the oldest one was lost unless there was room
  came_to : (before out items : List T) (lost : ℕ) (item : T) (room : Bool) → IsAccounted before out (holding items lost) →
      IsAccounted (before ++ item ∷ []) out (holding (cond room (items ++ item ∷ []) (drop 1 (items ++ item ∷ []))) (cond room lost (one_more lost)))
  came_to before out items lost item true was = came before out items lost item was
  came_to before out [] lost item false was = lost_one (before ++ item ∷ []) out [] lost item (came before out [] lost item was)
  came_to before out (first ∷ rest) lost item false was =
      lost_one (before ++ item ∷ []) out (rest ++ item ∷ []) lost first (came before out (first ∷ rest) lost item was)

  -- the oldest item was taken, if there was one
  taken_from : (before out items : List T) (lost : ℕ) → IsAccounted before out (holding items lost) →
      IsAccounted before (out ++ option_to_list (slice_get items 0)) (holding (drop 1 items) lost)
  taken_from before out [] lost was = rw (append-nil out) was
  taken_from before out (first ∷ rest) lost was = taken_one before out rest lost first was

  -- the oldest item was lost, if there was one
  lost_from : (before out items : List T) (lost : ℕ) → IsAccounted before out (holding items lost) →
      IsAccounted before out (holding (drop 1 items) (cond (length items == 0) lost (one_more lost)))
  lost_from before out [] lost was = was
  lost_from before out (first ∷ rest) lost was =
      let some : (length (first ∷ rest) == 0) ≡ false = grind (arith, nat_tests) in
      rw some (lost_one before out rest lost first was)

  -- a push keeps the account
  pub push_accounts : (n : ℕ) (old new : Backlog T) (item : T) → new ≡ with_item n old item → Accounts old new (item ∷ []) []
  unfolding holding
  push_accounts n old new item is before out was =
      rw (is, append-nil out) (came_to before out old.items old.lost item (nat_lt (length old.items) n) was)

  -- a take keeps it
  pub pop_accounts : (old new : Backlog T) (answer : Option T) → new ≡ without_first old → answer ≡ slice_get old.items 0 → Accounts old new [] (option_to_list answer)
  unfolding holding
  pop_accounts old new answer is first before out was = rw (is, first, append-nil before) (taken_from before out old.items old.lost was)

  -- and so does passing over
  pub pass_over_accounts : (old new : Backlog T) → new ≡ passed_over old → Accounts old new [] []
  unfolding holding
  pass_over_accounts old new is before out was = rw (is, append-nil before, append-nil out) (lost_from before out old.items old.lost was)
