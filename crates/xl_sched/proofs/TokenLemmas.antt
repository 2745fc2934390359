-- How tokens begin.
use Rattle.std.proofs.Common.{◌≡◌, ◌==◌, ◌+◌, ◌≤◌, ℕ, Bool, true, false, cond, not, List, [], ◌∷◌, length, take, drop, filter, map, min, nat_lt, Some, None, unwrap_or, refl, ap, sym, ◌∙◌, arith, suc}
use Rattle.std.specs.List.{slice_split, onto_first, position_or_len, position}
use Rattle.std.proofs.lemmas.List.{take-append-drop, take_all, take_min}
use Rattle.std.proofs.lemmas.List.Sums.{prefix_len-le-length, length-filter, count_by-le-length}
use Rattle.std.proofs.lemmas.List.Splits.{length-slice_split}
use Rattle.std.proofs.lemmas.Bool.Decides.{nat_tests}
use Rattle.xl_sched.specs.Tokens.{tokens, is_blank, BeginsToken, IsTokenSplit, shown_byte, shown_token}

abbrev is_run : List ℕ → Bool
is_run run = not (length run == 0)

-- a blank before a line changes nothing
pub tokens-blank : (b : ℕ) (bs : List ℕ) → is_blank b ≡ true → tokens (b ∷ bs) ≡ tokens bs
tokens-blank b bs e = ap (λ v. filter is_run (cond v ([] ∷ slice_split is_blank bs) (onto_first b (slice_split is_blank bs)))) e

abbrev later_parts : List ℕ → List (List ℕ)
later_parts [] = []
later_parts (b ∷ bs) = slice_split is_blank bs

abbrev first_len : List ℕ → ℕ
first_len bs = position_or_len is_blank bs

one_more : (n : ℕ) → 1 + n ≡ suc n
one_more n = omega arith

first_part : (bs : List ℕ) → slice_split is_blank bs ≡ take (first_len bs) bs ∷ later_parts (drop (first_len bs) bs)
first_part [] = refl
first_part (b ∷ bs) =
    elim (is_blank b) as (λ v. cond v ([] ∷ slice_split is_blank bs) (onto_first b (slice_split is_blank bs)) ≡ take (cond (not v) (1 + first_len bs) 0) (b ∷ bs) ∷ later_parts (drop (cond (not v) (1 + first_len bs) 0) (b ∷ bs))) [
      | true ↦ refl
      | false ↦ ap (onto_first b) (first_part bs) ∙ sym (ap (λ k. take k (b ∷ bs) ∷ later_parts (drop k (b ∷ bs))) (one_more (first_len bs)))
    ]

tokens_later : (bs : List ℕ) → filter is_run (later_parts (drop (first_len bs) bs)) ≡ tokens (drop (first_len bs) bs)
tokens_later [] = refl
tokens_later (b ∷ bs) =
    elim (is_blank b) as (λ v. is_blank b ≡ v → filter is_run (later_parts (drop (cond (not v) (1 + first_len bs) 0) (b ∷ bs))) ≡ tokens (drop (cond (not v) (1 + first_len bs) 0) (b ∷ bs))) [
      | true ↦ λ e. sym (tokens-blank b bs e)
      | false ↦ λ e. rw (one_more (first_len bs)) (tokens_later bs)
    ] refl

pub position_or_len-unwrap : (p : ℕ → Bool) (bs : List ℕ) → unwrap_or (position p bs) (length bs) ≡ position_or_len p bs
position_or_len-unwrap p bs =
    let within = prefix_len-le-length (λ x. not (p x)) bs in
    elim (nat_lt (position_or_len p bs) (length bs)) as (λ v. nat_lt (position_or_len p bs) (length bs) ≡ v → unwrap_or (cond v (Some (position_or_len p bs)) None) (length bs) ≡ position_or_len p bs) [
      | true ↦ λ _. refl
      | false ↦ λ e. grind (arith, nat_tests)
    ] refl

not_zero : (k : ℕ) → (suc k == 0) ≡ false
not_zero k = grind (arith, nat_tests)

chosen : (v : Bool) (x y z : List (List ℕ)) → v ≡ false → cond (not v) x y ≡ cond v z x
chosen v x y z e = rw e refl

tokens_first : (bs : List ℕ) → tokens bs ≡ cond (is_run (take (first_len bs) bs)) (take (first_len bs) bs ∷ tokens (drop (first_len bs) bs)) (tokens (drop (first_len bs) bs))
tokens_first bs = ap (filter is_run) (first_part bs) ∙ ap (λ rest. cond (is_run (take (first_len bs) bs)) (take (first_len bs) bs ∷ rest) rest) (tokens_later bs)

begins_run : (bs : List ℕ) → BeginsToken bs → tokens bs ≡ cond (length (take (first_len bs) bs) == 0) [] (take (first_len bs) bs ∷ tokens (drop (first_len bs) bs))
begins_run [] h = refl
begins_run (b ∷ bs) h =
    let n = first_len bs in
    let some : length (take (first_len (b ∷ bs)) (b ∷ bs)) == 0 ≡ false =
    ap (λ v. length (take (cond (not v) (1 + n) 0) (b ∷ bs)) == 0) h ∙ ap (λ k. length (take k (b ∷ bs)) == 0) (one_more n) ∙ not_zero (length (take n bs)) in
    tokens_first (b ∷ bs) ∙ chosen _ _ _ _ some

pub IsTokenSplit-first : (bs : List ℕ) → IsTokenSplit bs (take (first_len bs) bs) (drop (first_len bs) bs)
IsTokenSplit-first bs = record { whole = take-append-drop (first_len bs) bs; token_tokens = begins_run bs }

-- there are no more tokens than bytes, and one
pub length-tokens-le : (bs : List ℕ) → length (tokens bs) ≤ length bs + 1
length-tokens-le bs =
    let parts = slice_split is_blank bs in
    omega (arith, length-filter is_run parts, count_by-le-length is_run parts, length-slice_split is_blank bs, count_by-le-length is_blank bs)

-- what is shown of a token that isn't empty
pub shown_token-some : (token : List ℕ) (n i : ℕ) → (length token == 0) ≡ false → n ≡ min 32 (length token) → length (take n token) ≤ i → map shown_byte (take i (take n token)) ≡ shown_token token
shown_token-some [] n i e m h = cc
shown_token-some (b ∷ bs) n i e m h =
    ap (map shown_byte) (take_all i (take n (b ∷ bs)) h ∙ ap (λ k. take k (b ∷ bs)) m ∙ take_min 32 (b ∷ bs))
