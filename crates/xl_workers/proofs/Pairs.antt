-- Two lists that go together.
use Rattle.std.proofs.Common.{◌≡◌, ℕ, zero, suc, ◌+◌, ◌<◌, List, [], ◌∷◌, length, map, ap, arith, refl, ◌++◌, take, drop}
use Rattle.std.proofs.lemmas.List.{take_at}
use Rattle.std.specs.Prelude.{slice_index_or, remove}
use Rattle.std.specs.List.{AllByRecursion}
use Rattle.xl_workers.specs.Pairing.{Paired, total}

-- from each place
pub paired_at : {A : Type 0} (P : A → A → Type 0) (xs ys : List A) → length ys ≡ length xs
    → ((i : ℕ) (d : A) → i < length xs → P (slice_index_or xs i d) (slice_index_or ys i d)) → Paired P xs ys
paired_at P [] [] e h = tt
paired_at P [] (y ∷ ys) e h = absurd (omega (arith, e))
paired_at P (x ∷ xs) [] e h = absurd (omega (arith, e))
paired_at P (x ∷ xs) (y ∷ ys) e h =
    (h 0 x (omega arith), paired_at P xs ys (omega (arith, e)) (λ i d lt. h (suc i) d (omega (arith, lt))))

pub paired_more : {A B : Type 0} (P : A → B → Type 0) (xs : List A) (ys : List B) (x : A) (y : B) → Paired P xs ys
    → P x y → Paired P (xs ++ x ∷ []) (ys ++ y ∷ [])
paired_more P [] [] x y h p = (p, tt)
paired_more P [] (b ∷ ys) x y h p = absurd h
paired_more P (a ∷ xs) [] x y h p = absurd h
paired_more P (a ∷ xs) (b ∷ ys) x y h p = (h.0, paired_more P xs ys x y h.1 p)

-- another relation of the images, if one follows from the other for elements that have this
pub paired_map : {A B C : Type 0} (P : A → A → Type 0) (Q : B → C → Type 0) (R : A → Type 0) (f : A → B) (g : A → C)
    → ((x y : A) → R x → P x y → Q (f x) (g y))
    → (xs ys : List A) → AllByRecursion R xs → Paired P xs ys → Paired Q (map f xs) (map g ys)
paired_map P Q R f g step [] [] r h = tt
paired_map P Q R f g step [] (y ∷ ys) r h = h
paired_map P Q R f g step (x ∷ xs) [] r h = h
paired_map P Q R f g step (x ∷ xs) (y ∷ ys) r h = (step x y r.0 h.0, paired_map P Q R f g step xs ys r.1 h.1)

pub paired_sum : {A : Type 0} (P : A → A → Type 0) (f : A → ℕ) → ((x y : A) → P x y → f y ≡ f x)
    → (xs ys : List A) → Paired P xs ys → total f ys ≡ total f xs
paired_sum P f step [] [] h = refl
paired_sum P f step [] (y ∷ ys) h = absurd h
paired_sum P f step (x ∷ xs) [] h = absurd h
paired_sum P f step (x ∷ xs) (y ∷ ys) h =
    let a = step x y h.0 in let b = paired_sum P f step xs ys h.1 in omega (arith, a, b)

pub paired_all : {A : Type 0} (P : A → A → Type 0) (R : A → Type 0) → ((x y : A) → P x y → R y)
    → (xs ys : List A) → Paired P xs ys → AllByRecursion R ys
paired_all P R step [] [] h = tt
paired_all P R step [] (y ∷ ys) h = absurd h
paired_all P R step (x ∷ xs) [] h = absurd h
paired_all P R step (x ∷ xs) (y ∷ ys) h = (step x y h.0, paired_all P R step xs ys h.1)

pub paired_with : {A : Type 0} (P : A → A → Type 0) (R : A → Type 0) (xs ys : List A) → Paired P xs ys
    → AllByRecursion R ys → Paired (λ x y. P x y × R y) xs ys
paired_with P R [] [] h r = tt
paired_with P R [] (y ∷ ys) h r = absurd h
paired_with P R (x ∷ xs) [] h r = absurd h
paired_with P R (x ∷ xs) (y ∷ ys) h r = ((h.0, r.0), paired_with P R xs ys h.1 r.1)

pub both_all : {A : Type 0} (P Q : A → Type 0) (xs : List A) → AllByRecursion P xs → AllByRecursion Q xs
    → AllByRecursion (λ x. P x × Q x) xs
both_all P Q [] p q = tt
both_all P Q (x ∷ xs) p q = ((p.0, q.0), both_all P Q xs p.1 q.1)

pub all_of_map : {A B : Type 0} (P : B → Type 0) (f : A → B) (xs : List A) → AllByRecursion P (map f xs)
    → AllByRecursion (λ x. P (f x)) xs
all_of_map P f [] h = tt
all_of_map P f (x ∷ xs) h = (h.0, all_of_map P f xs h.1)

pub all_more : {A : Type 0} (P : A → Type 0) (xs : List A) (x : A) → AllByRecursion P xs → P x
    → AllByRecursion P (xs ++ x ∷ [])
all_more P [] x h p = (p, tt)
all_more P (y ∷ xs) x h p = (h.0, all_more P xs x h.1 p)

pub index_all : {A : Type 0} (P : A → Type 0) (xs : List A) → AllByRecursion P xs → (i : ℕ) (d : A) → i < length xs
    → P (slice_index_or xs i d)
index_all P [] h i d lt = absurd (omega (arith, lt))
index_all P (x ∷ xs) h zero d lt = h.0
index_all P (x ∷ xs) h (suc i) d lt = index_all P xs h.1 i d (omega (arith, lt))

pub map_twice : {A B C : Type 0} (f : A → B) (g : B → C) (xs : List A) → map g (map f xs) ≡ map (λ x. g (f x)) xs
map_twice f g [] = refl
map_twice f g (x ∷ xs) = ap (λ l. g (f x) ∷ l) (map_twice f g xs)

pub sum_map : {A B : Type 0} (f : A → B) (g : B → ℕ) (xs : List A) → total g (map f xs) ≡ total (λ x. g (f x)) xs
sum_map f g [] = refl
sum_map f g (x ∷ xs) = ap (λ n. g (f x) + n) (sum_map f g xs)

pub total_more : {A : Type 0} (f : A → ℕ) (xs : List A) (x : A) → total f (xs ++ x ∷ []) ≡ total f xs + f x
total_more f [] x = omega arith
total_more f (y ∷ xs) x = let e = total_more f xs x in omega (arith, e)

-- the first of a list, and what is left when it is taken out
pub first_off : {A : Type 0} (xs ys : List A) (x : A) → 0 < length xs → x ≡ slice_index_or xs 0 x → ys ≡ remove xs 0
    → xs ≡ x ∷ ys
first_off [] ys x lt e f = absurd (omega (arith, lt))
first_off (a ∷ more) ys x lt e f = cc

-- what was written through a slice of a vector is what the vector has
pub put_back : {A : Type 0} (new old : List A) (len : ℕ) → length new ≡ length old → len ≡ length old
    → take len (new ++ drop (length new) old) ≡ new
put_back new old len same is = take_at new (drop (length new) old) len (omega (arith, same, is))
