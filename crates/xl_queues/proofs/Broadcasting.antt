-- The queues of a broadcast's readers, as it is pushed to, read, and counted anew.
use Rattle.std.proofs.Common.{◌≡◌, ℕ, zero, suc, ◌+◌, ◌-◌, ◌^◌, ◌<◌, ◌≤◌, List, [], ◌∷◌, ◌++◌, length, drop, map, set, get_or, refl, arith, ap, sym, ◌∙◌, inl, inr, subst, nat_lt}
use Rattle.std.specs.Prelude.{◌⊎◌, All, min, replicate, slice_get}
use Rattle.std.proofs.lemmas.Bool.{cases_Bool, cases_lt, cond-true, cond-false, ltb-true, ltb-false}
use Rattle.std.proofs.lemmas.List.{drop-append-le, drop-drop, length-append, length-drop, get_or-map, map-set}
use Rattle.circular_buffer.proofs.Places.{slice_get-drop}
use Rattle.std.proofs.lemmas.List.Elements.{All-head, All-tail, All-set, All-weaker, All-map}
use Rattle.circular_buffer.specs.Buffer.{keep_last}
use Rattle.xl_queues.specs.declared.broadcast.Reader.{Reader}
use Rattle.xl_base.specs.Counts.{one_more}
use Rattle.xl_queues.specs.Queues.{Backlog, no_items, with_item}
use Rattle.xl_queues.specs.Broadcasts.{waiting_for, KeepsUp, counted_anew, pushed_to_all, queue_of, at_reader, left_with}

cons_same : {X : Type 0} {x y : X} {xs ys : List X} → x ≡ y → xs ≡ ys → x ∷ xs ≡ y ∷ ys
cons_same p q = cc

module _ {T : Type 0} where
  -- THE LAST ITEMS

  -- all of them
  keep_all : (n : ℕ) (xs : List T) → length xs ≤ n → keep_last n xs ≡ xs
  keep_all n xs le = let none : length xs - n ≡ 0 = omega (arith, le) in ap (λ (k : ℕ). drop k xs) none

  -- the last of the last
  pub keep_fewer : (m n : ℕ) (xs : List T) → m ≤ n → keep_last m (keep_last n xs) ≡ keep_last m xs
  keep_fewer m n xs le =
      drop-drop (length (keep_last n xs) - m) (length xs - n) xs
      ∙ ap (λ (k : ℕ). drop k xs) (omega (arith, le, length-drop (length xs - n) xs))

  -- with one item more
  keep_one_more : (n : ℕ) (xs : List T) (x : T) → n ≤ length xs → keep_last (n + 1) (xs ++ x ∷ []) ≡ keep_last n xs ++ x ∷ []
  keep_one_more n xs x le =
      ap (λ (k : ℕ). drop k (xs ++ x ∷ [])) (omega (arith, length-append xs (x ∷ []))) ∙ drop-append-le (length xs - n) xs (x ∷ []) (omega arith)

  drop-nil : (k : ℕ) → drop {A = T} k [] ≡ []
  drop-nil zero = refl
  drop-nil (suc k) = refl

  length-keep : (n : ℕ) (xs : List T) → length (keep_last n xs) ≡ min n (length xs)
  length-keep n xs = omega (arith, length-drop (length xs - n) xs)

  same_backlog : {xs ys : List T} {a b : ℕ} → xs ≡ ys → a ≡ b → (let q : Backlog T = record { items = xs; lost = a } in q) ≡ (let q : Backlog T = record { items = ys; lost = b } in q)
  same_backlog p q = cc

  -- A PUSH

  -- one reader's queue
  one_pushed : (n : ℕ) (xs : List T) (count : ℕ) (r : Reader) (x : T) → length xs ≤ n → KeepsUp n (length xs) count r →
      waiting_for n (keep_last n (xs ++ x ∷ [])) (count + 1) r ≡ with_item n (waiting_for n xs count r) x
  one_pushed n xs count r x few up =
      let d : ℕ = count - r.read in
      let next : count + 1 - r.read ≡ d + 1 = omega (arith, up.behind) in
      let held : length (keep_last d xs) ≡ min d (length xs) = length-keep d xs in
      let whole : length (xs ++ x ∷ []) ≡ length xs + 1 = length-append xs (x ∷ []) in
      elim (cases_Bool (nat_lt (length (keep_last d xs)) n)) [
        | inl room ↦
            let small : min d (length xs) < n = omega (arith, ltb-true (length (keep_last d xs)) n room, held) in
            let within : d ≤ length xs = elim up.kept [ inl le ↦ le | inr all ↦ omega (arith, small, all) ] in
            same_backlog
            (ap (λ (k : ℕ). keep_last k (keep_last n (xs ++ x ∷ []))) next ∙ keep_fewer (d + 1) n (xs ++ x ∷ []) (omega (arith, small, within)) ∙ keep_one_more d xs x within
            ∙ sym (cond-true (nat_lt (length (keep_last d xs)) n) (keep_last d xs ++ x ∷ []) (drop 1 (keep_last d xs ++ x ∷ [])) room))
            (omega (arith, next, small, within)
            ∙ sym (cond-true (nat_lt (length (keep_last d xs)) n) (min (r.lost + (d - n)) (2 ^ 64 - 1)) (one_more (min (r.lost + (d - n)) (2 ^ 64 - 1))) room))
        | inr full ↦
            let many : n ≤ min d (length xs) = omega (arith, ltb-false (length (keep_last d xs)) n full, held) in
            let first : length (xs ++ x ∷ []) - n ≡ 1 = omega (arith, whole, many, few) in
            let all : keep_last d xs ≡ xs = keep_all d xs (omega (arith, many, few)) in
            same_backlog
            (ap (λ (k : ℕ). keep_last k (keep_last n (xs ++ x ∷ []))) next ∙ keep_all (d + 1) (keep_last n (xs ++ x ∷ [])) (omega (arith, length-keep n (xs ++ x ∷ []), many))
            ∙ ap (λ (k : ℕ). drop k (xs ++ x ∷ [])) first
            ∙ ap (λ (ys : List T). drop 1 (ys ++ x ∷ [])) (sym all)
            ∙ sym (cond-false (nat_lt (length (keep_last d xs)) n) (keep_last d xs ++ x ∷ []) (drop 1 (keep_last d xs ++ x ∷ [])) full))
            (omega (arith, next, many)
            ∙ sym (cond-false (nat_lt (length (keep_last d xs)) n) (min (r.lost + (d - n)) (2 ^ 64 - 1)) (one_more (min (r.lost + (d - n)) (2 ^ 64 - 1))) full))
      ]

  -- every reader's
  pub all_pushed : (n : ℕ) (xs : List T) (count : ℕ) (x : T) (readers : List Reader) → length xs ≤ n → All (KeepsUp n (length xs) count) readers →
      map (waiting_for n (keep_last n (xs ++ x ∷ [])) (count + 1)) readers ≡ pushed_to_all n (map (waiting_for n xs count) readers) x
  all_pushed n xs count x [] few up = refl
  all_pushed n xs count x (r ∷ rs) few up =
      cons_same (one_pushed n xs count r x few (All-head (KeepsUp n (length xs) count) r rs up)) (all_pushed n xs count x rs few (All-tail (KeepsUp n (length xs) count) r rs up))

  pub keep_up : (n : ℕ) (xs : List T) (count : ℕ) (x : T) (r : Reader) → length xs ≤ n → KeepsUp n (length xs) count r → KeepsUp n (length (keep_last n (xs ++ x ∷ []))) (count + 1) r
  keep_up n xs count x r few up =
      let long : length (keep_last n (xs ++ x ∷ [])) ≡ min n (length xs + 1) = omega (arith, length-keep n (xs ++ x ∷ []), length-append xs (x ∷ [])) in
      record { behind = omega (arith, up.behind); kept = still up.kept }
    where
      still : (count - r.read ≤ length xs) ⊎ (length xs ≡ n) → (count + 1 - r.read ≤ length (keep_last n (xs ++ x ∷ []))) ⊎ (length (keep_last n (xs ++ x ∷ [])) ≡ n)
      still (inl le) =
          let long : length (keep_last n (xs ++ x ∷ [])) ≡ min n (length xs + 1) = omega (arith, length-keep n (xs ++ x ∷ []), length-append xs (x ∷ [])) in
          elim (cases_lt (length xs) n) [
            | inl less ↦ inl (omega (arith, long, le, less, up.behind))
            | inr full ↦ inr (omega (arith, long, few, full))
          ]
      still (inr all) = inr (omega (arith, length-keep n (xs ++ x ∷ []), length-append xs (x ∷ []), all))

  -- COUNTED ANEW

  one_anew : (n : ℕ) (xs : List T) (count : ℕ) (r : Reader) → length xs ≤ n → waiting_for n xs n (counted_anew n count r) ≡ waiting_for n xs count r
  one_anew n xs count r few =
      same_backlog (ap (λ (k : ℕ). drop k xs) (omega (arith, few))) (omega arith)

  pub all_anew : (n : ℕ) (xs : List T) (count : ℕ) (readers : List Reader) → length xs ≤ n → map (waiting_for n xs n) (map (counted_anew n count) readers) ≡ map (waiting_for n xs count) readers
  all_anew n xs count [] few = refl
  all_anew n xs count (r ∷ rs) few = cons_same (one_anew n xs count r few) (all_anew n xs count rs few)

up_anew : (n held count : ℕ) (r : Reader) → held ≤ n → KeepsUp n held count r → KeepsUp n held n (counted_anew n count r)
up_anew n held count r few up = record { behind = omega arith; kept = elim up.kept [ inl le ↦ inl (omega (arith, le, few)) | inr all ↦ inr all ] }

pub all_up_anew : (n held count : ℕ) (readers : List Reader) → held ≤ n → All (KeepsUp n held count) readers → All (KeepsUp n held n) (map (counted_anew n count) readers)
all_up_anew n held count readers few up =
    All-map (KeepsUp n held n) (counted_anew n count) readers (All-weaker (KeepsUp n held count) (λ r. KeepsUp n held n (counted_anew n count r)) (λ r. up_anew n held count r few) readers up)

module _ {T : Type 0} where
  -- A READER

  -- what waits for it
  pub queue_at : (n : ℕ) (xs : List T) (count : ℕ) (readers : List Reader) (k : ℕ) (d : Reader) → k < length readers → queue_of (map (waiting_for n xs count) readers) k ≡ waiting_for n xs count (get_or readers k d)
  queue_at n xs count readers k d within = get_or-map (waiting_for n xs count) readers k d no_items within

  -- how many, the oldest of them, and how many it lost
  pub count_at : (n : ℕ) (xs : List T) (count : ℕ) (readers : List Reader) (k : ℕ) (d : Reader) → k < length readers →
      length (queue_of (map (waiting_for n xs count) readers) k).items ≡ min (length xs) (count - (get_or readers k d).read)
  count_at n xs count readers k d within =
      ap (λ (q : Backlog T). length q.items) (queue_at n xs count readers k d within) ∙ (let long = length-keep (count - (get_or readers k d).read) xs in omega arith)

  pub first_at : (n : ℕ) (xs : List T) (count : ℕ) (readers : List Reader) (k : ℕ) (d : Reader) (waiting : ℕ) → k < length readers → waiting ≡ length (queue_of (map (waiting_for n xs count) readers) k).items →
      slice_get xs (length xs - waiting) ≡ slice_get (queue_of (map (waiting_for n xs count) readers) k).items 0
  first_at n xs count readers k d waiting within is =
      let from : ℕ = length xs - (count - (get_or readers k d).read) in
      let same : length xs - waiting ≡ from + 0 = omega (arith, is, count_at n xs count readers k d within) in
      sym (slice_get-drop from xs 0 (length xs - waiting) same) ∙ ap (λ (q : Backlog T). slice_get q.items 0) (sym (queue_at n xs count readers k d within))

  -- it is left fewer
  one_left : (n : ℕ) (xs : List T) (count left lost : ℕ) (r : Reader) → length xs ≤ n → lost < 2 ^ 64 → left ≤ min (length xs) (count - r.read) →
      waiting_for n xs count (record { read = count - left; lost = lost }) ≡ left_with left lost (waiting_for n xs count r)
  one_left n xs count left lost r few fits le =
      same_backlog (ap (λ (k : ℕ). keep_last k xs) back ∙ sym (keep_fewer left (count - r.read) xs (omega (arith, le)))) (omega (arith, back, le, few, fits))
    where
      back : count - (count - left) ≡ left
      back = omega (arith, le)

  pub left_at : (n : ℕ) (xs : List T) (count : ℕ) (readers : List Reader) (k left lost : ℕ) (d : Reader) → k < length readers → length xs ≤ n → lost < 2 ^ 64 → left ≤ length (queue_of (map (waiting_for n xs count) readers) k).items →
      map (waiting_for n xs count) (set readers k (record { read = count - left; lost = lost })) ≡ at_reader (map (waiting_for n xs count) readers) k (left_with left lost)
  left_at n xs count readers k left lost d within few fits le =
      map-set (waiting_for n xs count) readers k (record { read = count - left; lost = lost })
      ∙ ap (set (map (waiting_for n xs count) readers) k) (one_left n xs count left lost (get_or readers k d) few fits (omega (arith, le, count_at n xs count readers k d within))
      ∙ ap (left_with left lost) (sym (queue_at n xs count readers k d within)))

  pub left_up : (n : ℕ) (xs : List T) (count : ℕ) (readers : List Reader) (k left lost : ℕ) (d : Reader) → k < length readers → left ≤ length (queue_of (map (waiting_for n xs count) readers) k).items →
      All (KeepsUp n (length xs) count) readers → All (KeepsUp n (length xs) count) (set readers k (record { read = count - left; lost = lost }))
  left_up n xs count readers k left lost d within le up =
      let few : left ≤ min (length xs) (count - (get_or readers k d).read) = omega (arith, le, count_at n xs count readers k d within) in
      All-set (KeepsUp n (length xs) count) readers k (record { read = count - left; lost = lost }) (record { behind = omega arith; kept = inl (omega (arith, few)) }) up

  -- AT FIRST

  none_yet : (n : ℕ) (xs : List T) → xs ≡ [] → waiting_for n xs 0 (record { read = 0; lost = 0 }) ≡ no_items
  none_yet n xs none = same_backlog (ap (drop (length xs - 0)) none ∙ drop-nil (length xs - 0)) (omega arith)

  pub at_first : (n readers : ℕ) (xs : List T) → xs ≡ [] → map (waiting_for n xs 0) (replicate readers (record { read = 0; lost = 0 })) ≡ replicate readers no_items
  at_first n readers xs none = each readers
    where
      each : (k : ℕ) → map (waiting_for n xs 0) (replicate k (record { read = 0; lost = 0 })) ≡ replicate k no_items
      each zero = refl
      each (suc k) = cons_same (none_yet n xs none) (each k)

  -- AFTER A PUSH

  pub push_waits : (n : ℕ) (xs ys : List T) (count : ℕ) (readers : List Reader) (old : List (Backlog T)) (x : T) → ys ≡ keep_last n (xs ++ x ∷ []) → length xs ≤ n → All (KeepsUp n (length xs) count) readers →
      map (waiting_for n xs count) readers ≡ old → map (waiting_for n ys (count + 1)) readers ≡ pushed_to_all n old x
  push_waits n xs ys count readers old x is few up same =
      ap (λ (zs : List T). map (waiting_for n zs (count + 1)) readers) is ∙ all_pushed n xs count x readers few up ∙ ap (λ (qs : List (Backlog T)). pushed_to_all n qs x) same

  pub push_keeps : (n : ℕ) (xs ys : List T) (count : ℕ) (readers : List Reader) (x : T) → ys ≡ keep_last n (xs ++ x ∷ []) → length xs ≤ n → All (KeepsUp n (length xs) count) readers →
      (length ys ≤ n) × All (KeepsUp n (length ys) (count + 1)) readers
  push_keeps n xs ys count readers x is few up = (
    omega (arith, ap length is, length-keep n (xs ++ x ∷ [])),
    subst (λ (zs : List T). All (KeepsUp n (length zs) (count + 1)) readers) (sym is) (All-weaker (KeepsUp n (length xs) count) (KeepsUp n (length (keep_last n (xs ++ x ∷ []))) (count + 1)) (λ r. keep_up n xs count x r few) readers up),
  )
