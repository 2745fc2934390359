-- Where the timers of a history stand.
use Rattle.std.proofs.Common.{◌≡◌, ◌<◌, ◌≤◌, ◌+◌, ◌⊎◌, ◌++◌, ◌∷◌, Bool, true, false, ℕ, zero, suc, List, [], length, map, take, Option, Some, inl, inr, refl, sym, ap, ◌∙◌, subst, arith, ⊎_elim}
use Rattle.std.specs.Prelude.{ltb, get_or, slice_get, if◌then◌else◌}
use Rattle.std.specs.List.{AllByRecursion}
use Rattle.std.proofs.lemmas.Bool.{cases_eq}
use Rattle.std.proofs.lemmas.List.{take_more}
use Rattle.std.proofs.lemmas.Option.{slice_get-get_or}
use Rattle.xl_turns.specs.Places.{all_below, insert_place, merge}
use Rattle.xl_store.specs.Calls.{Rise}
use Rattle.xl_workers.specs.Sharing.{merge_all}
use Rattle.xl_validator.specs.Ends.{StandsIn}

-- PLACES

pub in_append : (q : ℕ) (xs ys : List ℕ) → StandsIn q (xs ++ ys) → StandsIn q xs ⊎ StandsIn q ys
in_append q [] ys h = inr h
in_append q (x ∷ xs) ys (inl e) = inl (inl e)
in_append q (x ∷ xs) ys (inr h) = ⊎_elim (λ l. inl (inr l)) (λ r. inr r) (in_append q xs ys h)

in_case : (q p x : ℕ) (xs : List ℕ) (b : Bool) → (StandsIn q (insert_place p xs) → (q ≡ p) ⊎ StandsIn q xs)
    → StandsIn q (if b then p ∷ x ∷ xs else x ∷ insert_place p xs)
    → (q ≡ p) ⊎ StandsIn q (x ∷ xs)
in_case q p x xs true rest (inl e) = inl e
in_case q p x xs true rest (inr h) = inr h
in_case q p x xs false rest (inl e) = inr (inl e)
in_case q p x xs false rest (inr h) = ⊎_elim (λ e. inl e) (λ i. inr (inr i)) (rest h)

in_insert : (q p : ℕ) (xs : List ℕ) → StandsIn q (insert_place p xs) → (q ≡ p) ⊎ StandsIn q xs
in_insert q p [] h = h
in_insert q p (x ∷ xs) h = in_case q p x xs (ltb p x) (in_insert q p xs) h

in_merge : (q : ℕ) (xs ys : List ℕ) → StandsIn q (merge xs ys) → StandsIn q xs ⊎ StandsIn q ys
in_merge q [] ys h = inr h
in_merge q (x ∷ xs) ys h = ⊎_elim
    (λ e. inl (inl e))
    (λ i. ⊎_elim (λ l. inl (inr l)) (λ r. inr r) (in_merge q xs ys i))
    (in_insert q x (merge xs ys) h)

-- the place is of one of these lists
abbrev pub InSome : ℕ → List (List ℕ) → Type 0
InSome q [] = ⊥
InSome q (xs ∷ rest) = StandsIn q xs ⊎ InSome q rest

pub in_merge_all : (q : ℕ) (xs : List ℕ) (parts : List (List ℕ)) → StandsIn q (merge_all xs parts)
    → StandsIn q xs ⊎ InSome q parts
in_merge_all q xs [] h = inl h
in_merge_all q xs (ys ∷ parts) h = ⊎_elim
    (λ l. ⊎_elim (λ a. inl a) (λ b. inr (inl b)) (in_merge q xs ys l))
    (λ r. inr (inr r))
    (in_merge_all q (merge xs ys) parts h)

in_left : (q : ℕ) (xs ys : List ℕ) → StandsIn q xs → StandsIn q (xs ++ ys)
in_left q [] ys h = absurd h
in_left q (x ∷ xs) ys (inl e) = inl e
in_left q (x ∷ xs) ys (inr h) = inr (in_left q xs ys h)

in_right : (q : ℕ) (xs ys : List ℕ) → StandsIn q ys → StandsIn q (xs ++ ys)
in_right q [] ys h = h
in_right q (x ∷ xs) ys h = inr (in_right q xs ys h)

pub in_all_below : (q n : ℕ) → q < n → StandsIn q (all_below n)
in_all_below q zero lt = absurd (omega (arith, lt))
in_all_below q (suc n) lt = ⊎_elim
    (λ (same : q ≡ n). in_right q (all_below n) (n ∷ []) (inl same))
    (λ (other : q ≡ n → ⊥). in_left q (all_below n) (n ∷ []) (in_all_below q n (omega (arith, lt, other))))
    (cases_eq q n)

-- a place in front of another stands before it
rise_low : (low high p : ℕ) (xs after : List ℕ) → Rise low (xs ++ p ∷ after) high → low ≤ p
rise_low low high p [] after r = r.0
rise_low low high p (x ∷ xs) after r =
    let further = rise_low (x + 1) high p xs after r.1 in let here = r.0 in omega (arith, further, here)

rise_before : (low high p q : ℕ) (xs after : List ℕ) → Rise low (xs ++ p ∷ after) high → StandsIn q xs → q < p
rise_before low high p q [] after r h = absurd h
rise_before low high p q (x ∷ xs) after r (inl e) =
    let further = rise_low (x + 1) high p xs after r.1 in omega (arith, further, e)
rise_before low high p q (x ∷ xs) after r (inr h) = rise_before (x + 1) high p q xs after r.1 h

-- WHAT STANDS AT PLACES

module _ {A : Type 0} where
  some_head : (x y : A) (xs ys : List (Option A)) → Some x ∷ xs ≡ Some y ∷ ys → x ≡ y
  some_head x y xs ys e = cc

  head : (x y : Option A) (xs ys : List (Option A)) → x ∷ xs ≡ y ∷ ys → x ≡ y
  head x y xs ys e = cc

  tail : (x y : Option A) (xs ys : List (Option A)) → x ∷ xs ≡ y ∷ ys → xs ≡ ys
  tail x y xs ys e = cc

  pub some_same : (x y : A) → Some x ≡ Some y → x ≡ y
  some_same x y e = cc

  somes : (xs ys : List A) → map Some xs ≡ map Some ys → xs ≡ ys
  somes [] [] e = refl
  somes [] (y ∷ ys) e = absurd cc
  somes (x ∷ xs) [] e = absurd cc
  somes (x ∷ xs) (y ∷ ys) e =
      (λ i. some_head x y (map Some xs) (map Some ys) e i
      ∷ somes xs ys (tail (Some x) (Some y) (map Some xs) (map Some ys) e) i)

  -- the element at a place, of which something holds
  abbrev pub HoldsAt : (A → Type 0) → List A → ℕ → Type 0
  HoldsAt P all q = (x : A) × (slice_get all q ≡ Some x) × P x

  -- what holds of the elements at these places
  pub at_place : (P : A → Type 0) (all : List A) (places : List ℕ) (xs : List A)
      → map (slice_get all) places ≡ map Some xs
      → AllByRecursion P xs → (q : ℕ) → StandsIn q places → HoldsAt P all q
  at_place P all [] xs e ps q h = absurd h
  at_place P all (p ∷ places) [] e ps q h = absurd cc
  at_place P all (p ∷ places) (x ∷ xs) e ps q (inl same) =
      (x, ap (slice_get all) same ∙ head (slice_get all p) (Some x) (map (slice_get all) places) (map Some xs) e, ps.0)
  at_place P all (p ∷ places) (x ∷ xs) e ps q (inr h) =
      at_place P all places xs (tail (slice_get all p) (Some x) (map (slice_get all) places) (map Some xs) e) ps.1 q h

  map_both : (all : List A) (xs ys : List ℕ)
      → map (slice_get all) (xs ++ ys) ≡ map (slice_get all) xs ++ map (slice_get all) ys
  map_both all [] ys = refl
  map_both all (x ∷ xs) ys = ap (λ (l : List (Option A)). slice_get all x ∷ l) (map_both all xs ys)

  somes_both : (xs ys : List A) → map Some (xs ++ ys) ≡ map Some xs ++ map Some ys
  somes_both [] ys = refl
  somes_both (x ∷ xs) ys = ap (λ (l : List (Option A)). Some x ∷ l) (somes_both xs ys)

  front_at : (all : List A) (d : A) (n : ℕ) → n ≤ length all → map (slice_get all) (all_below n) ≡ map Some (take n all)
  front_at all d zero le = refl
  front_at all d (suc n) le =
      let lt : n < length all = omega (arith, le) in
      let on : n + 1 ≡ suc n = omega arith in
      map_both all (all_below n) (n ∷ [])
      ∙ (λ i. front_at all d n (omega (arith, le)) i ++ slice_get-get_or all n d lt i ∷ [])
      ∙ sym (somes_both (take n all) (get_or all n d ∷ []))
      ∙ ap (map Some) (sym (take_more all n d lt))
      ∙ ap (λ (k : ℕ). map Some (take k all)) on

  take_all : (xs : List A) → take (length xs) xs ≡ xs
  take_all [] = refl
  take_all (x ∷ xs) = ap (λ (l : List A). x ∷ l) (take_all xs)

  -- what stands at all places is all
  pub all_at : (all xs : List A) → map (slice_get all) (all_below (length all)) ≡ map Some xs → xs ≡ all
  all_at [] [] e = refl
  all_at [] (x ∷ xs) e = absurd cc
  all_at (a ∷ all) xs e =
      somes xs (a ∷ all)
      (sym e ∙ front_at (a ∷ all) a (length (a ∷ all)) (omega arith) ∙ ap (map Some) (take_all (a ∷ all)))

  pub all_append : (P : A → Type 0) (xs ys : List A) → AllByRecursion P xs → AllByRecursion P ys
      → AllByRecursion P (xs ++ ys)
  all_append P [] ys h k = k
  all_append P (x ∷ xs) ys h k = (h.0, all_append P xs ys h.1 k)

  -- the place at which one of several elements stands
  pub record Splits (all : List A) (places : List ℕ) (x : A) (later : List A) : Type 0 where
    pub before : List ℕ
    pub place : ℕ
    pub after : List ℕ
    pub parts : places ≡ before ++ place ∷ after
    pub here : slice_get all place ≡ Some x
    pub behind : map (slice_get all) after ≡ map Some later

  pub splits : (all : List A) (places : List ℕ) (earlier : List A) (x : A) (later : List A)
      → map (slice_get all) places ≡ map Some (earlier ++ x ∷ later)
      → Splits all places x later
  splits all [] [] x later e = absurd cc
  splits all [] (y ∷ ys) x later e = absurd cc
  splits all (p ∷ ps) [] x later e = record {
    before = [];
    place = p;
    after = ps;
    parts = refl;
    here = head (slice_get all p) (Some x) (map (slice_get all) ps) (map Some later) e;
    behind = tail (slice_get all p) (Some x) (map (slice_get all) ps) (map Some later) e;
  }
  splits all (p ∷ ps) (y ∷ ys) x later e =
      let s = splits all ps ys x later
      (tail (slice_get all p) (Some y) (map (slice_get all) ps) (map Some (ys ++ x ∷ later)) e) in
      record {
        before = p ∷ s.before;
        place = s.place;
        after = s.after;
        parts = ap (λ (l : List ℕ). p ∷ l) s.parts;
        here = s.here;
        behind = s.behind;
      }

  -- an element, and what holds of all that stand behind it
  pub record IsLastAt (P : A → Type 0) (all : List A) (x : A) : Type 0 where
    pub earlier : List A
    pub later : List A
    pub parts : all ≡ earlier ++ x ∷ later
    pub last : AllByRecursion P later

  all_hold : (P : A → Type 0) (xs : List A) → ((q : ℕ) → q < length xs → HoldsAt P xs q) → AllByRecursion P xs
  all_hold P [] f = tt
  all_hold P (x ∷ xs) f = (
    (let here = f 0 (omega arith) in subst P (sym (some_same x here.0 here.1)) here.2),
    all_hold P xs (λ q lt. f (suc q) (omega (arith, lt))),
  )

  pub cut_at : (P : A → Type 0) (all : List A) (p : ℕ) (x : A) → slice_get all p ≡ Some x
      → ((q : ℕ) → p < q → q < length all → HoldsAt P all q)
      → IsLastAt P all x
  cut_at P [] p x e f = absurd cc
  cut_at P (a ∷ all) zero x e f = record {
    earlier = [];
    later = all;
    parts = ap (λ (y : A). y ∷ all) (some_same a x e);
    last = all_hold P all (λ q lt. f (suc q) (omega arith) (omega (arith, lt)));
  }
  cut_at P (a ∷ all) (suc p) x e f =
      let r = cut_at P all p x e (λ q gt lt. f (suc q) (omega (arith, gt)) (omega (arith, lt))) in
      record {
        earlier = a ∷ r.earlier;
        later = r.later;
        parts = ap (λ (l : List A). a ∷ l) r.parts;
        last = r.last;
      }

-- ONE PART OF SEVERAL

-- of the places of a history each is one of these, or something holds of what stands there
module _ {A : Type 0} (P : A → Type 0) (all : List A) (mine : List ℕ)
    (others : (q : ℕ) → q < length all → StandsIn q mine ⊎ HoldsAt P all q) where
  -- so behind the last of these of which it doesn't hold it holds of all
  pub last_of : (earlier : List A) (x : A) (later : List A) → map (slice_get all) mine ≡ map Some (earlier ++ x ∷ later)
      → Rise 0 mine (length all)
      → AllByRecursion P later
      → IsLastAt P all x
  last_of earlier x later e rise none =
      let s = splits all mine earlier x later e in
      let rises = subst (λ (l : List ℕ). Rise 0 l (length all)) s.parts rise in
      cut_at P all s.place x s.here (λ q gt lt. ⊎_elim
      (λ (here : StandsIn q mine). ⊎_elim
      (λ (front : StandsIn q s.before).
      let before = rise_before 0 (length all) s.place q s.before s.after rises front in
      absurd (omega (arith, before, gt)))
      (λ (rest : StandsIn q (s.place ∷ s.after)). ⊎_elim
      (λ (same : q ≡ s.place). absurd (omega (arith, same, gt)))
      (λ (behind : StandsIn q s.after). at_place P all s.after later s.behind none q behind)
      rest)
      (in_append q s.before (s.place ∷ s.after) (subst (λ (l : List ℕ). StandsIn q l) s.parts here)))
      (λ (other : HoldsAt P all q). other)
      (others q lt))
