-- How the tokens of a line part.
use Rattle.std.proofs.Common.{◌≡◌, ◌+◌, ◌-◌, ◌<◌, ◌≤◌, ℕ, Bool, true, false, cond, not, List, [], ◌∷◌, length, take, drop, nat_lt, nat_le, Some, None, refl, ap, sym, ◌∙◌, arith, zero, suc}
use Rattle.std.specs.List.{slice_split, onto_first, position_or_len, position, join_with_byte}
use Rattle.std.proofs.lemmas.List.{take_all, drop_all, length-drop}
use Rattle.std.proofs.lemmas.List.Sums.{count_by-le-length, position_or_len_is}
use Rattle.std.proofs.lemmas.List.Splits.{length-slice_split, join_with_byte-slice_split}
use Rattle.std.proofs.lemmas.Bool.{leb-true, leb-false, lt-ltb, le-ltb, cond-true, cond-false, false_from_ne_true}
use Rattle.std.proofs.lemmas.Bool.Decides.{nat_tests}
use Rattle.std.specs.Prelude.{Option, slice_index}
use Rattle.memchr.specs.Find.{IsFirstByte, is_byte}
use Rattle.xl_audit.specs.Words.{is_space, tokens, tokens_if, first, others}

abbrev first_len : List ℕ → ℕ
first_len bs = position_or_len is_space bs

abbrev later_parts : List ℕ → List (List ℕ)
later_parts [] = []
later_parts (b ∷ bs) = tokens bs

one_more : (n : ℕ) → 1 + n ≡ suc n
one_more n = omega arith

more_one : (n : ℕ) → suc n + 1 ≡ suc (n + 1)
more_one n = omega arith

first_part : (bs : List ℕ) → tokens bs ≡ take (first_len bs) bs ∷ later_parts (drop (first_len bs) bs)
first_part [] = refl
first_part (b ∷ bs) =
    elim (is_space b) as (λ v. cond v ([] ∷ slice_split is_space bs) (onto_first b (slice_split is_space bs)) ≡ take (cond (not v) (1 + first_len bs) 0) (b ∷ bs) ∷ later_parts (drop (cond (not v) (1 + first_len bs) 0) (b ∷ bs))) [
      | true ↦ refl
      | false ↦ ap (onto_first b) (first_part bs) ∙ sym (ap (λ k. take k (b ∷ bs) ∷ later_parts (drop k (b ∷ bs))) (one_more (first_len bs)))
    ]

later_at : (at : ℕ) (bs : List ℕ) → at < length bs → later_parts (drop at bs) ≡ tokens (drop (at + 1) bs)
later_at zero [] lt = absurd (omega (arith, lt))
later_at zero (b ∷ bs) lt = refl
later_at (suc at) [] lt = absurd (omega (arith, lt))
later_at (suc at) (b ∷ bs) lt =
    later_at at bs (omega (arith, lt)) ∙ ap (λ k. tokens (drop k (b ∷ bs))) (sym (more_one at))

-- the first space stands there
abbrev pub IsPartedAt : List ℕ → ℕ → Type 0
IsPartedAt bs at = (at < length bs) × (tokens bs ≡ take at bs ∷ tokens (drop (at + 1) bs))

parted : (bs : List ℕ) (n at : ℕ) → n ≡ first_len bs → n < length bs → n ≡ at → IsPartedAt bs at
parted bs n at is lt same =
    let within : at < length bs = omega arith in
    let here : first_len bs ≡ at = sym is ∙ same in (
      within,
      first_part bs ∙ (ap (λ k. take k bs ∷ later_parts (drop k bs)) here ∙ ap (λ ws. take at bs ∷ ws) (later_at at bs within)),
    )

test_lt : (a b : ℕ) → nat_lt a b ≡ true → a < b
test_lt a b e = grind (arith, nat_tests)

test_ge : (a b : ℕ) → nat_lt a b ≡ false → b ≤ a
test_ge a b e = grind (arith, nat_tests)

pub parted_at : (bs : List ℕ) (at : ℕ) → position is_space bs ≡ Some at → IsPartedAt bs at
parted_at bs at =
    let n : ℕ = first_len bs in
    elim (nat_lt n (length bs)) as (λ v. nat_lt n (length bs) ≡ v → cond v (Some n) None ≡ Some at → IsPartedAt bs at) [
      | true ↦ λ lt e. parted bs n at refl (test_lt n (length bs) lt) (cc)
      | false ↦ λ lt e. absurd (cc)
    ] refl

pub parted_not : (bs : List ℕ) → position is_space bs ≡ None → tokens bs ≡ bs ∷ []
parted_not bs =
    let n : ℕ = first_len bs in
    elim (nat_lt n (length bs)) as (λ v. nat_lt n (length bs) ≡ v → cond v (Some n) None ≡ None → tokens bs ≡ bs ∷ []) [
      | true ↦ λ lt e. absurd (cc)
      | false ↦ λ lt e.
          let long : length bs ≤ n = test_ge n (length bs) lt in
          first_part bs ∙ (ap (λ xs. xs ∷ later_parts (drop n bs)) (take_all n bs long) ∙ ap (λ xs. bs ∷ later_parts xs) (drop_all n bs long))
    ] refl

-- there are no more tokens than bytes, and one
pub length-tokens-le : (bs : List ℕ) → length (tokens bs) ≤ length bs + 1
length-tokens-le bs = omega (arith, length-slice_split is_space bs, count_by-le-length is_space bs)

-- some token is there
pub length-tokens-some : (bs : List ℕ) → 1 ≤ length (tokens bs)
length-tokens-some bs = omega (arith, length-slice_split is_space bs)

pub joined_tokens : (bs : List ℕ) → join_with_byte 32 (tokens bs) ≡ bs
joined_tokens bs = join_with_byte-slice_split 32 bs

pub first_at : (bs : List ℕ) (at : ℕ) → position is_space bs ≡ Some at → take at bs ≡ first (tokens bs)
first_at bs at e = sym (ap first (parted_at bs at e).1)

pub first_not : (bs : List ℕ) → position is_space bs ≡ None → bs ≡ first (tokens bs)
first_not bs e = sym (ap first (parted_not bs e))

pub others_at : (bs : List ℕ) (at : ℕ) → position is_space bs ≡ Some at → tokens (drop (at + 1) bs) ≡ others (tokens bs)
others_at bs at e = sym (ap others (parted_at bs at e).1)

pub others_not : (bs : List ℕ) → position is_space bs ≡ None → [] ≡ others (tokens bs)
others_not bs e = sym (ap others (parted_not bs e))

-- one more is left out
pub drop_one : (ws : List (List ℕ)) (n : ℕ) → others (drop n ws) ≡ drop (n + 1) ws
drop_one [] zero = refl
drop_one [] (suc n) = ap (λ k. drop k []) (sym (more_one n))
drop_one (w ∷ ws) zero = refl
drop_one (w ∷ ws) (suc n) = drop_one ws n ∙ ap (λ k. drop k (w ∷ ws)) (sym (more_one n))

-- what the type shows while a token is left, and when none is
pub shown : (more : Bool) (bs : List ℕ) (ws : List (List ℕ)) → tokens_if more bs ≡ ws → more ≡ true → tokens bs ≡ ws
shown more bs ws is left = ap (λ (b : Bool). tokens_if b bs) (sym left) ∙ is

pub shown_none : (more : Bool) (bs : List ℕ) (ws : List (List ℕ)) → tokens_if more bs ≡ ws → more ≡ false → [] ≡ ws
shown_none more bs ws is left = ap (λ (b : Bool). tokens_if b bs) (sym left) ∙ is

-- the rest of a slice, as a slice has it
pub rest_of : (bs : List ℕ) (n : ℕ) → take (length bs - n) (drop n bs) ≡ drop n bs
rest_of bs n = take_all (length bs - n) (drop n bs) (omega (arith, length-drop n bs))

-- HOW MANY THERE ARE

-- whether one is left
pub any_left : (more : Bool) (bs : List ℕ) (ws : List (List ℕ)) → tokens_if more bs ≡ ws → more ≡ nat_lt 0 (length ws)
any_left true bs ws is =
    sym (lt-ltb 0 (length (tokens bs)) (length-tokens-some bs)) ∙ ap (λ (xs : List (List ℕ)). nat_lt 0 (length xs)) is
any_left false bs ws is = ap (λ (xs : List (List ℕ)). nat_lt 0 (length xs)) is

-- one is left behind fewer than so many exactly if they are so many
pub has_so_many : (count : ℕ) (xs : List (List ℕ)) → 0 < count
    → nat_lt 0 (length (drop (count - 1) xs)) ≡ nat_le count (length xs)
has_so_many count xs some =
    let left = length-drop (count - 1) xs in
    elim (nat_le count (length xs)) as (λ v. nat_le count (length xs) ≡ v → nat_lt 0 (length (drop (count - 1) xs)) ≡ v) [
      | true ↦ λ is. let le = leb-true count (length xs) is in lt-ltb 0 (length (drop (count - 1) xs)) (omega (arith, left, le, some))
      | false ↦ λ is. let lt = leb-false count (length xs) is in le-ltb 0 (length (drop (count - 1) xs)) (omega (arith, left, lt, some))
    ] refl

-- they aren't so many exactly if they are fewer
pub not_so_many : (least n : ℕ) → not (nat_le least n) ≡ nat_lt n least
not_so_many least n =
    elim (nat_le least n) as (λ v. nat_le least n ≡ v → not v ≡ nat_lt n least) [
      | true ↦ λ is. let le = leb-true least n is in let no = le-ltb n least le in cc
      | false ↦ λ is. let lt = leb-false least n is in let yes = lt-ltb n least lt in cc
    ] refl

-- a first space is found
pub found_space : (bs : List ℕ) (found : Option ℕ) → IsFirstByte (is_byte 32) bs found → found ≡ position is_space bs
found_space bs (Some at) first =
    let is : first_len bs ≡ at =
    position_or_len_is is_space bs at 0 (omega (arith, first.0.high))
    (λ k lt. false_from_ne_true (is_space (slice_index bs k)) (first.0.before k (omega arith) lt)) (λ lt. first.1) in
    sym (cond-true (nat_lt (first_len bs) (length bs)) (Some (first_len bs)) None (lt-ltb (first_len bs) (length bs) (omega (arith, is, first.0.high))) ∙ ap Some is)
found_space bs None first =
    let is : first_len bs ≡ length bs =
    position_or_len_is is_space bs (length bs) 0 (omega arith)
    (λ k lt. false_from_ne_true (is_space (slice_index bs k)) (first k (omega arith) lt)) (λ lt. absurd (omega (arith, lt))) in
    sym (cond-false (nat_lt (first_len bs) (length bs)) (Some (first_len bs)) None (le-ltb (first_len bs) (length bs) (omega (arith, is))))
