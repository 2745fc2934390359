-- Sets in bytes: what lies where, and the first fall.
use Rattle.std.proofs.Common.{◌≡◌, ℕ, zero, suc, ◌+◌, ◌-◌, ◌*◌, ◌/◌, ◌<◌, ◌≤◌, Bor, Bool, true, false, cond, List, [], ◌∷◌, length, slice_get, get_or, take, drop, Option, Some, None, refl, sym, ap, subst, ◌∙◌, arith}
use Rattle.std.proofs.lemmas.List.{drop-drop}
use Rattle.std.specs.Ordering.{nat_cmp, is_lt, is_some_and, ordering_then, partial_ordering_then}
use Rattle.std.specs.Cmp.Lexicographic.{slice_cmp, slice_partial_cmp}
use Rattle.std.specs.declared.cmp.Ordering.{Ordering}
use Rattle.std.specs.declared.cmp.Ordering.TheVariants.{Less, Equal, Greater}
use Rattle.xl_base.specs.declared.ids.TxId.{TxId}
use Rattle.xl_base.specs.Sets.{comes_before}
use Rattle.xl_wire.specs.Sets.{ids_in, fall_from}
use Rattle.xl_wire.specs.declared.ids.Kept.{Kept}
use Rattle.xl_wire.specs.declared.ids.Kept.TheVariants.{Spelled, Listed}
use Rattle.xl_wire.specs.Storing.{kept_ids, AreWhole, IsKept}

pub length-ids_in : (n : ℕ) (bytes : List ℕ) → length (ids_in n bytes) ≡ n
length-ids_in zero bytes = refl
length-ids_in (suc n) bytes = ap suc (length-ids_in n (drop 32 bytes))

pub get-ids_in : (n i : ℕ) (bytes : List ℕ) → i < n → slice_get (ids_in n bytes) i ≡ Some (record { 0 = take 32 (drop (32 * i) bytes) })
get-ids_in zero i bytes h = absurd (omega arith)
get-ids_in (suc n) zero bytes h = refl
get-ids_in (suc n) (suc i) bytes h =
    let moved : drop (32 * i) (drop 32 bytes) ≡ drop (32 * suc i) bytes = drop-drop (32 * i) 32 bytes ∙ ap (λ (k : ℕ). drop k bytes) (omega arith) in
    get-ids_in n i (drop 32 bytes) (omega arith) ∙ ap (λ (x : List ℕ). Some (record { 0 = take 32 x })) moved

-- the ids that lie in bytes have their 32 bytes each
pub id_fits : (kept : Kept) (bytes : Bor (List ℕ)) (now : List TxId) (i : ℕ) → IsKept kept → kept ≡ Spelled bytes → kept_ids kept ≡ now → i < length now → 32 * i + 32 ≤ length bytes.now
id_fits kept bytes now i ok is view lt =
    let same : ids_in (length bytes.now / 32) bytes.now ≡ now = sym (ap kept_ids is) ∙ view in
    let count : length bytes.now / 32 ≡ length now = sym (length-ids_in (length bytes.now / 32) bytes.now) ∙ ap length same in
    let whole : length bytes.now ≡ 32 * (length bytes.now / 32) = subst AreWhole is ok.whole in
    omega arith

pub id_there : (kept : Kept) (bytes : Bor (List ℕ)) (now : List TxId) (i : ℕ) (id : List ℕ) → kept ≡ Spelled bytes → kept_ids kept ≡ now → i < length now → id ≡ take 32 (drop (32 * i) bytes.now) → slice_get now i ≡ Some (record { 0 = id })
id_there kept bytes now i id is view lt e =
    let same : ids_in (length bytes.now / 32) bytes.now ≡ now = sym (ap kept_ids is) ∙ view in
    let count : length bytes.now / 32 ≡ length now = sym (length-ids_in (length bytes.now / 32) bytes.now) ∙ ap length same in
    ap (λ (x : List TxId). slice_get x i) (sym same) ∙ get-ids_in (length bytes.now / 32) i bytes.now (omega arith) ∙ ap (λ (x : List ℕ). Some (record { 0 = x })) (sym e)

id_at : (ids : List TxId) (i : ℕ) (d : TxId) → i < length ids → slice_get ids i ≡ Some (get_or ids i d)
id_at [] i d h = absurd (omega arith)
id_at (id ∷ ids) zero d h = refl
id_at (id ∷ ids) (suc i) d h = id_at ids i d (omega arith)

pub id_listed : (kept : Kept) (ids : Bor (List TxId)) (now : List TxId) (i : ℕ) (d : TxId) → kept ≡ Listed ids → kept_ids kept ≡ now → i < length now → slice_get now i ≡ Some (get_or ids.now i d)
id_listed kept ids now i d is view lt =
    let same : ids.now ≡ now = sym (ap kept_ids is) ∙ view in
    rw same (id_at now i d lt)

-- the first fall of a list whose first id has the place before this one
abbrev pub fall_at : ℕ → List TxId → Option ℕ
fall_at place [] = None
fall_at place (a ∷ ids) = fall_from place a ids

-- an id that doesn't come after the one before is the first fall
pub fall_here : (n place : ℕ) (bytes x before id : List ℕ) → 1 ≤ place → place < n → x ≡ drop (32 * (place - 1)) bytes → before ≡ take 32 x → id ≡ take 32 (drop 32 x) → comes_before before id ≡ false
    → fall_at place (ids_in (n - (place - 1)) (drop (32 * (place - 1)) bytes)) ≡ Some place
fall_here n place bytes x before id low lt at b i test =
    let left : n - (place - 1) ≡ suc (suc (n - place - 1)) = omega arith in
    let falls : comes_before (take 32 x) (take 32 (drop 32 x)) ≡ false = rw (← b, ← i) test in
    ap (λ (k : ℕ). fall_at place (ids_in k (drop (32 * (place - 1)) bytes))) left
    ∙ ap (λ (y : List ℕ). fall_at place (ids_in (suc (suc (n - place - 1))) y)) (sym at)
    ∙ ap (λ (t : Bool). cond t (fall_at (place + 1) (ids_in (suc (n - place - 1)) (drop 32 x))) (Some place)) falls

-- else the first fall comes later
pub fall_later : (n place : ℕ) (bytes x before id : List ℕ) → 1 ≤ place → place < n → x ≡ drop (32 * (place - 1)) bytes → before ≡ take 32 x → id ≡ take 32 (drop 32 x) → comes_before before id ≡ true
    → fall_at (place + 1) (ids_in (n - (place + 1 - 1)) (drop (32 * (place + 1 - 1)) bytes)) ≡ fall_at place (ids_in (n - (place - 1)) (drop (32 * (place - 1)) bytes))
fall_later n place bytes x before id low lt at b i test =
    let left : n - (place - 1) ≡ suc (suc (n - place - 1)) = omega arith in
    let left' : n - (place + 1 - 1) ≡ suc (n - place - 1) = omega arith in
    let rises : comes_before (take 32 x) (take 32 (drop 32 x)) ≡ true = rw (← b, ← i) test in
    let next : drop 32 x ≡ drop (32 * (place + 1 - 1)) bytes = ap (drop 32) at ∙ drop-drop 32 (32 * (place - 1)) bytes ∙ ap (λ (k : ℕ). drop k bytes) (omega arith) in
    let here : fall_at place (ids_in (n - (place - 1)) (drop (32 * (place - 1)) bytes)) ≡ fall_at (place + 1) (ids_in (suc (n - place - 1)) (drop 32 x)) =
    ap (λ (k : ℕ). fall_at place (ids_in k (drop (32 * (place - 1)) bytes))) left
    ∙ ap (λ (y : List ℕ). fall_at place (ids_in (suc (suc (n - place - 1))) y)) (sym at)
    ∙ ap (λ (t : Bool). cond t (fall_at (place + 1) (ids_in (suc (n - place - 1)) (drop 32 x))) (Some place)) rises in
    ap (λ (k : ℕ). fall_at (place + 1) (ids_in k (drop (32 * (place + 1 - 1)) bytes))) left'
    ∙ ap (λ (y : List ℕ). fall_at (place + 1) (ids_in (suc (n - place - 1)) y)) (sym next)
    ∙ sym here

then_is : (o p : Ordering) → partial_ordering_then (Some o) (Some p) ≡ Some (ordering_then o p)
then_is Less p = refl
then_is Equal p = refl
then_is Greater p = refl

partial_is : (xs ys : List ℕ) → slice_partial_cmp (λ x y. Some (nat_cmp x y)) xs ys ≡ Some (slice_cmp nat_cmp xs ys)
partial_is [] [] = refl
partial_is [] (y ∷ ys) = refl
partial_is (x ∷ xs) [] = refl
partial_is (x ∷ xs) (y ∷ ys) = ap (partial_ordering_then (Some (nat_cmp x y))) (partial_is xs ys) ∙ then_is (nat_cmp x y) (slice_cmp nat_cmp xs ys)

pub before_is : (xs ys : List ℕ) → is_some_and is_lt (slice_partial_cmp (λ x y. Some (nat_cmp x y)) xs ys) ≡ comes_before xs ys
before_is xs ys = ap (is_some_and is_lt) (partial_is xs ys)
