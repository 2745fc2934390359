-- What stands in a list, what is found there, and how many.
use Rattle.std.proofs.Common.{◌≡◌, ◌⊎◌, ℕ, zero, suc, ◌+◌, ◌<◌, ◌≤◌, Bool, true, false, cond, List, [], ◌∷◌, ◌++◌, length, get_or, Option, Some, None, IsSome, is_some, All, refl, sym, ap, subst, ◌∙◌, ⊎_elim, arith, inl, inr}
use Rattle.xl_trie.proofs.Common.{find, map, list_all, count_by, range_with_len, cases_Bool, sum_by-cons, length-range_with_len, get_or-range_with_len, length-append, In, Apart}
use Rattle.std.specs.List.{filter, list_any}
use Rattle.std.proofs.lemmas.List.Elements.{All-filter, All-map, filter-append, filter_passes}
use Rattle.std.proofs.lemmas.List.Folds.{Any-from_list_any, list_any_at}
use Rattle.std.proofs.lemmas.List.Sums.{AllPass-from_list_all, length-filter, list_all-from_AllPass}

pub some_is : {X : Type 0} (a b : X) → Some a ≡ Some b → a ≡ b
some_is a b e = cc

pub some_of : {X : Type 0} (o : Option X) → IsSome o → (x : X) × (o ≡ Some x)
some_of None e = absurd cc
some_of (Some x) e = (x, refl)

pub is_some_if : {X : Type 0} (o : Option X) (x : X) → o ≡ Some x → IsSome o
is_some_if o x e = ap is_some e

pub none_some : {X : Type 0} (a : X) → None ≡ Some a → ⊥
none_some a e = cc

pub none_of : {X : Type 0} (o : Option X) → is_some o ≡ false → o ≡ None
none_of None e = refl
none_of (Some x) e = absurd cc

pub true_false : {P : Type 0} (b : Bool) → b ≡ true → b ≡ false → P
true_false b t f = absurd cc

pub false_if : (b : Bool) → (b ≡ true → ⊥) → b ≡ false
false_if b h = grind (arith, cases_Bool b, h)

module _ {X : Type 0} where
  pub in_at : (xs : List X) (i : ℕ) (d : X) → i < length xs → In (get_or xs i d) xs
  in_at [] i d lt = absurd (omega arith)
  in_at (x ∷ xs) zero d lt = inl refl
  in_at (x ∷ xs) (suc i) d lt = inr (in_at xs i d (omega arith))

  pub at_in : (xs : List X) (x d : X) → In x xs → (i : ℕ) × (i < length xs) × (get_or xs i d ≡ x)
  at_in [] x d i = absurd i
  at_in (y ∷ xs) x d (inl e) = (0, omega arith, sym e)
  at_in (y ∷ xs) x d (inr i) = let r = at_in xs x d i in (suc r.0, omega (arith, r.1), r.2)

  -- what holds of each element
  pub all_in : (P : X → Type 0) (xs : List X) → All P xs → (x : X) → In x xs → P x
  all_in P xs all x i = let r = at_in xs x x i in subst P r.2 (all r.0 x r.1)

  pub all_of : (P : X → Type 0) (xs : List X) → ((x : X) → In x xs → P x) → All P xs
  all_of P [] h k d lt = absurd (omega arith)
  all_of P (x ∷ xs) h zero d lt = h x (inl refl)
  all_of P (x ∷ xs) h (suc k) d lt = all_of P xs (λ z i. h z (inr i)) k d (omega arith)

  pub in_either : (xs ys : List X) (x : X) → In x (xs ++ ys) → In x xs ⊎ In x ys
  in_either [] ys x i = inr i
  in_either (y ∷ xs) ys x (inl e) = inl (inl e)
  in_either (y ∷ xs) ys x (inr i) = ⊎_elim (λ j. inl (inr j)) (λ j. inr j) (in_either xs ys x i)

  pub in_first : (xs ys : List X) (x : X) → In x xs → In x (xs ++ ys)
  in_first [] ys x i = absurd i
  in_first (y ∷ xs) ys x (inl e) = inl e
  in_first (y ∷ xs) ys x (inr i) = inr (in_first xs ys x i)

  pub in_second : (xs ys : List X) (x : X) → In x ys → In x (xs ++ ys)
  in_second [] ys x i = i
  in_second (y ∷ xs) ys x i = inr (in_second xs ys x i)

  pub around : (ys : List X) (x : X) → In x ys → (fs : List X) × (bs : List X) × (ys ≡ fs ++ x ∷ bs)
  around [] x i = absurd i
  around (y ∷ ys) x (inl e) = ([], ys, ap (λ w. w ∷ ys) (sym e))
  around (y ∷ ys) x (inr i) = let r = around ys x i in (y ∷ r.0, r.1, ap (λ w. y ∷ w) r.2)

  module _ (p : X → Bool) where
    pub all_if : (xs : List X) → ((x : X) → In x xs → p x ≡ true) → list_all p xs ≡ true
    all_if xs h = list_all-from_AllPass p xs (all_of (λ x. p x ≡ true) xs h)

    pub all_at : (xs : List X) → list_all p xs ≡ true → (x : X) → In x xs → p x ≡ true
    all_at xs e x i = all_in (λ x. p x ≡ true) xs (AllPass-from_list_all p xs e) x i

    -- the only element that passes is found
    pub find_in : (xs : List X) (c : X) → In c xs → p c ≡ true → ((x : X) → In x xs → p x ≡ true → x ≡ c) → find p xs ≡ Some c
    find_in [] c i e only = absurd i
    find_in (x ∷ xs) c i e only = grind (arith, cases_Bool (p x), i, e, only x (inl refl), λ (j : In c xs). find_in xs c j e (λ y k. only y (inr k)))

    pub find_no : (xs : List X) → ((x : X) → In x xs → p x ≡ false) → find p xs ≡ None
    find_no [] h = refl
    find_no (x ∷ xs) h = ap (λ b. cond {A = Option X} b (Some x) (find p xs)) (h x (inl refl)) ∙ find_no xs (λ y i. h y (inr i))

pub in_range : (n c : ℕ) → c < n → In c (range_with_len 0 n)
in_range n c lt = subst (λ k. In k (range_with_len 0 n)) (let e : get_or (range_with_len 0 n) c 0 ≡ c = omega (arith, get_or-range_with_len 0 n c 0 lt) in e) (in_at (range_with_len 0 n) c 0 (omega (arith, lt, length-range_with_len 0 n)))

pub of_range : (n c : ℕ) → In c (range_with_len 0 n) → c < n
of_range n c i = let r = at_in (range_with_len 0 n) c 0 i in omega (arith, r.1, r.2, length-range_with_len 0 n, get_or-range_with_len 0 n r.0 0 (omega (arith, r.1, length-range_with_len 0 n)))

-- ---- counts, filters, and maps

bits : (a b : Bool) → (a ≡ true → b ≡ true) → cond a 1 0 ≤ cond b 1 0
bits a b h = grind (arith, cases_Bool a, cases_Bool b, h)

module _ {L : Type 0} where
  pub count_cons : (p : L → Bool) (v : L) (vs : List L) → count_by p (v ∷ vs) ≡ cond (p v) 1 0 + count_by p vs
  count_cons p v vs = sum_by-cons (λ x. cond (p x) 1 0) v vs

  pub count_le : (p q : L → Bool) (vs : List L) → ((v : L) → In v vs → p v ≡ true → q v ≡ true) → count_by p vs ≤ count_by q vs
  count_le p q [] h = omega arith
  count_le p q (v ∷ vs) h =
      let r = count_le p q vs (λ w i. h w (inr i)) in
      let b = bits (p v) (q v) (h v (inl refl)) in
      omega (arith, count_cons p v vs, count_cons q v vs)

  pub count_same : (p q : L → Bool) (vs : List L) → ((v : L) → In v vs → p v ≡ true → q v ≡ true) → ((v : L) → In v vs → q v ≡ true → p v ≡ true) → count_by p vs ≡ count_by q vs
  count_same p q vs h g = let a = count_le p q vs h in let b = count_le q p vs g in omega arith

  pub in_filter : (p : L → Bool) (vs : List L) (v : L) → In v (filter p vs) → In v vs × (p v ≡ true)
  in_filter p vs v i = (
    all_in (λ x. In x vs) (filter p vs) (All-filter p (λ x. In x vs) vs (all_of (λ x. In x vs) vs (λ x j. j))) v i,
    all_in (λ x. p x ≡ true) (filter p vs) (filter_passes p vs) v i,
  )

  pub to_filter : (p : L → Bool) (vs : List L) (v : L) → In v vs → p v ≡ true → In v (filter p vs)
  to_filter p vs v i e =
      let r = around vs v i in
      let first : In v (filter p (v ∷ r.1)) = subst (λ b. In v (cond b (v ∷ filter p r.1) (filter p r.1))) (sym e) (inl refl) in
      subst (λ xs. In v xs) (sym (ap (filter p) r.2 ∙ filter-append p r.0 (v ∷ r.1))) (in_second (filter p r.0) (filter p (v ∷ r.1)) v first)

  pub in_map : {M : Type 0} (f : L → M) (vs : List L) (x : M) → In x (map f vs) → (v : L) × In v vs × (x ≡ f v)
  in_map {M = M} f vs x i = all_in (λ (y : M). (v : L) × In v vs × (y ≡ f v)) (map f vs) (All-map (λ (y : M). (v : L) × In v vs × (y ≡ f v)) f vs (all_of (λ v. (w : L) × In w vs × (f v ≡ f w)) vs (λ v j. (v, j, refl)))) x i

  pub to_map : {M : Type 0} (f : L → M) (vs : List L) (v : L) → In v vs → In (f v) (map f vs)
  to_map f [] v i = absurd i
  to_map f (w ∷ ws) v (inl i) = inl (ap f i)
  to_map f (w ∷ ws) v (inr i) = inr (to_map f ws v i)

  pub count_some : (p : L → Bool) (vs : List L) (v : L) → In v vs → p v ≡ true → 0 < count_by p vs
  count_some p vs v i e = let r = at_in (filter p vs) v v (to_filter p vs v i e) in omega (arith, r.1, length-filter p vs)

  -- a count above 0 counts something
  pub counted : (p : L → Bool) (vs : List L) → 0 < count_by p vs → (v : L) × In v vs × (p v ≡ true)
  counted p vs some = by_first (filter p vs) (omega (arith, some, length-filter p vs)) (λ v i. in_filter p vs v i)
    where
      by_first : (xs : List L) → 0 < length xs → ((v : L) → In v xs → In v vs × (p v ≡ true)) → (v : L) × In v vs × (p v ≡ true)
      by_first [] none each = absurd (omega (arith, none))
      by_first (v ∷ xs) some each = let e = each v (inl refl) in (v, e.0, e.1)

  -- ---- tests, and lists without repetition

  pub any_in : (p : L → Bool) (xs : List L) → list_any p xs ≡ true → (x : L) × In x xs × (p x ≡ true)
  any_in p xs e = let r = Any-from_list_any p xs e in (r.1, subst (λ y. In y xs) r.3 (in_at xs r.0 r.1 r.2), r.4)

  pub in_any : (p : L → Bool) (xs : List L) (x : L) → In x xs → p x ≡ true → list_any p xs ≡ true
  in_any p xs x i e = let r = at_in xs x x i in list_any_at p xs r.0 x r.1 (ap p r.2 ∙ e)

  pub apart_le : (xs ys : List L) → Apart xs → ((x : L) → In x xs → In x ys) → length xs ≤ length ys
  apart_le [] ys a h = omega arith
  apart_le (x ∷ xs) ys a h =
      let r = around ys x (h x (inl refl)) in
      let less = apart_le xs (r.0 ++ r.1) a.1 (λ z i. elim (in_either r.0 (x ∷ r.1) z (subst (In z) r.2 (h z (inr i)))) [
        | inl j ↦ in_first r.0 r.1 z j
        | inr (inl e) ↦ absurd (a.0 (subst (λ w. In w xs) e i))
        | inr (inr j) ↦ in_second r.0 r.1 z j
      ]) in
      omega (arith, less, length-append r.0 r.1, length-append r.0 (x ∷ r.1), ap (length {A = L}) r.2)

  pub apart_map : {Y : Type 0} (f : L → Y) (xs : List L) → Apart xs → ((a b : L) → In a xs → In b xs → f a ≡ f b → a ≡ b) → Apart (map f xs)
  apart_map f [] apart one = tt
  apart_map f (x ∷ xs) apart one = (
    (λ i. let y = in_map f xs (f x) i in apart.0 (subst (λ z. In z xs) (sym (one x y.0 (inl refl) (inr y.1) y.2)) y.1)),
    apart_map f xs apart.1 (λ a b i j. one a b (inr i) (inr j)),
  )

  pub filter_apart : (p : L → Bool) (xs : List L) → Apart xs → Apart (filter p xs)
  filter_apart p [] apart = tt
  filter_apart p (x ∷ xs) apart = by_test (p x) (filter_apart p xs apart.1)
    where
      by_test : (b : Bool) → Apart (filter p xs) → Apart (cond b (x ∷ filter p xs) (filter p xs))
      by_test true rest = ((λ i. apart.0 (in_filter p xs x i).0), rest)
      by_test false rest = rest

pub range_apart : (a n : ℕ) → Apart (range_with_len a n)
range_apart a zero = tt
range_apart a (suc n) = (
  (λ i. let r = at_in (range_with_len (a + 1) n) a 0 i in omega (arith, r.1, r.2, length-range_with_len (a + 1) n, get_or-range_with_len (a + 1) n r.0 0 (omega (arith, r.1, length-range_with_len (a + 1) n)))),
  range_apart (a + 1) n,
)
