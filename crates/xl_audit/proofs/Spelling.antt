-- Words and lines: texts without a space or a newline, and how texts part.
use Rattle.std.proofs.Common.{◌≡◌, ◌+◌, ◌/◌, ◌%◌, ◌<◌, ◌==◌, ◌&&◌, ℕ, zero, suc, ltb, Bool, true, false, cond, not, List, [], ◌∷◌, ◌++◌, refl, ap, sym, ◌∙◌, arith, decimal}
use Rattle.std.specs.List.{list_all, slice_index, slice_split, onto_first, flat_map}
use Rattle.std.specs.Fmt.{digits, digits_onto, digit_glyph}
use Rattle.std.proofs.lemmas.Bool.{and_parts, and_from, cond_both, cond-true, lt-ltb, not-true}
use Rattle.std.proofs.lemmas.Bool.Decides.{nat_tests}
use Rattle.std.proofs.lemmas.List.Folds.{list_all-append}
use Rattle.hex.specs.Hex.{encode_lower, encode_with, lower_digits}
use Rattle.xl_audit.specs.Words.{is_space, tokens}

-- neither a space nor a newline
abbrev pub is_plain : ℕ → Bool
is_plain b = not (b == 32) && not (b == 10)

-- a word: it parts nowhere
abbrev pub is_word : List ℕ → Bool
is_word bytes = list_all is_plain bytes

-- no newline stands in it
abbrev pub is_line : List ℕ → Bool
is_line bytes = list_all (λ b. not (b == 10)) bytes

pub word_line : (bytes : List ℕ) → is_word bytes ≡ true → is_line bytes ≡ true
word_line [] h = refl
word_line (b ∷ bs) h =
    let parts = and_parts (is_plain b) (is_word bs) h in
    and_from (not (b == 10)) (is_line bs) (and_parts (not (b == 32)) (not (b == 10)) parts.0).1 (word_line bs parts.1)

pub both_words : (xs ys : List ℕ) → is_word xs ≡ true → is_word ys ≡ true → is_word (xs ++ ys) ≡ true
both_words xs ys h k = list_all-append is_plain xs ys ∙ and_from (is_word xs) (is_word ys) h k

pub both_lines : (xs ys : List ℕ) → is_line xs ≡ true → is_line ys ≡ true → is_line (xs ++ ys) ≡ true
both_lines xs ys h k = list_all-append (λ b. not (b == 10)) xs ys ∙ and_from (is_line xs) (is_line ys) h k

pub lines_all : {X : Type 0} (f : X → List ℕ) → ((x : X) → is_line (f x) ≡ true) → (xs : List X) → is_line (flat_map f xs) ≡ true
lines_all f each [] = refl
lines_all f each (x ∷ xs) = both_lines (f x) (flat_map f xs) (each x) (lines_all f each xs)

pub words_all : {X : Type 0} (f : X → List ℕ) → ((x : X) → is_word (f x) ≡ true) → (xs : List X) → is_word (flat_map f xs) ≡ true
words_all f each [] = refl
words_all f each (x ∷ xs) = both_words (f x) (flat_map f xs) (each x) (words_all f each xs)

-- NUMBERS

glyph_is : (d : ℕ) → d < 10 → digit_glyph false d ≡ 48 + d
glyph_is d h = cond-true (ltb d 10) (48 + d) (87 + d) (lt-ltb d 10 h)

-- what each decimal digit has, each number's digits have
module _ (q : ℕ → Bool) (each : (d : ℕ) → d < 10 → q (48 + d) ≡ true) where
  glyph_has : (n : ℕ) → q (digit_glyph false (n % 10)) ≡ true
  glyph_has n = let small : n % 10 < 10 = omega arith in ap q (glyph_is (n % 10) small) ∙ each (n % 10) small

  onto_has : (k n : ℕ) (acc : List ℕ) → list_all q acc ≡ true → list_all q (digits_onto k 10 false n acc) ≡ true
  onto_has zero n acc h = h
  onto_has (suc k) n acc h =
      let d : ℕ = digit_glyph false (n % 10) in
      let more : list_all q (d ∷ acc) ≡ true = and_from (q d) (list_all q acc) (glyph_has n) h in
      cond_both (n / 10 == 0) (d ∷ acc) (digits_onto k 10 false (n / 10) (d ∷ acc)) (λ (ds : List ℕ). list_all q ds ≡ true)
      (λ _. more) (λ _. onto_has k (n / 10) (d ∷ acc) more)

  pub decimal_has : (n : ℕ) → list_all q (decimal n) ≡ true
  unfolding digits
  decimal_has n = onto_has 64 n [] refl

plain_digit : (d : ℕ) → d < 10 → is_plain (48 + d) ≡ true
plain_digit d h = grind (arith, nat_tests)

pub decimal_word : (n : ℕ) → is_word (decimal n) ≡ true
decimal_word n = decimal_has is_plain plain_digit n

pub decimal_line : (n : ℕ) → is_line (decimal n) ≡ true
decimal_line n = word_line (decimal n) (decimal_word n)

-- IDS AND BYTES

plain_at : (xs : List ℕ) (i : ℕ) → is_word xs ≡ true → is_plain (slice_index xs i) ≡ true
plain_at [] i h = refl
plain_at (x ∷ xs) zero h = (and_parts (is_plain x) (is_word xs) h).0
plain_at (x ∷ xs) (suc i) h = plain_at xs i (and_parts (is_plain x) (is_word xs) h).1

pub hex_word : (bytes : List ℕ) → is_word (encode_lower bytes) ≡ true
unfolding encode_with
hex_word [] = refl
hex_word (b ∷ bs) =
    and_from (is_plain (slice_index lower_digits (b / 16))) (is_plain (slice_index lower_digits (b % 16)) && is_word (encode_lower bs))
    (plain_at lower_digits (b / 16) refl)
    (and_from (is_plain (slice_index lower_digits (b % 16))) (is_word (encode_lower bs)) (plain_at lower_digits (b % 16) refl) (hex_word bs))

pub hex_line : (bytes : List ℕ) → is_line (encode_lower bytes) ≡ true
hex_line bytes = word_line (encode_lower bytes) (hex_word bytes)

-- PARTS

onto_both : (x : ℕ) (ps qs : List (List ℕ)) (first : List ℕ) (rest : List (List ℕ)) → ps ≡ first ∷ rest
    → onto_first x (ps ++ qs) ≡ onto_first x ps ++ qs
onto_both x ps qs first rest is =
    ap (λ (ts : List (List ℕ)). onto_first x (ts ++ qs)) is ∙ sym (ap (λ (ts : List (List ℕ)). onto_first x ts ++ qs) is)

record HasFirst (ts : List (List ℕ)) : Type 0 where
  first : List ℕ
  rest : List (List ℕ)
  is : ts ≡ first ∷ rest

onto_some : (x : ℕ) (ts : List (List ℕ)) → HasFirst (onto_first x ts)
onto_some x [] = record { first = x ∷ []; rest = []; is = refl }
onto_some x (t ∷ ts) = record { first = x ∷ t; rest = ts; is = refl }

module _ (p : ℕ → Bool) where
  abbrev parts_of : List ℕ → List (List ℕ)
  parts_of bs = slice_split p bs

  some_part : (bs : List ℕ) → HasFirst (parts_of bs)
  some_part [] = record { first = []; rest = []; is = refl }
  some_part (b ∷ bs) =
      cond_both (p b) ([] ∷ parts_of bs) (onto_first b (parts_of bs)) HasFirst
      (λ _. record { first = []; rest = parts_of bs; is = refl }) (λ _. onto_some b (parts_of bs))

  -- a byte that passes parts what stands before it from what stands behind
  pub parted : (c : ℕ) (xs ys : List ℕ) → p c ≡ true → parts_of (xs ++ c ∷ ys) ≡ parts_of xs ++ parts_of ys
  parted c [] ys e = ap (λ (v : Bool). cond v ([] ∷ parts_of ys) (onto_first c (parts_of ys))) e
  parted c (x ∷ xs) ys e =
      elim (p x) as (λ v. cond v ([] ∷ parts_of (xs ++ c ∷ ys)) (onto_first x (parts_of (xs ++ c ∷ ys))) ≡ cond v ([] ∷ parts_of xs) (onto_first x (parts_of xs)) ++ parts_of ys) [
        | true ↦ ap (λ (ts : List (List ℕ)). [] ∷ ts) (parted c xs ys e)
        | false ↦
            let some = some_part xs in
            ap (onto_first x) (parted c xs ys e) ∙ onto_both x (parts_of xs) (parts_of ys) some.first some.rest some.is
      ]

  -- where none passes all is one part
  pub one_part : (xs : List ℕ) → list_all (λ b. not (p b)) xs ≡ true → parts_of xs ≡ xs ∷ []
  one_part [] h = refl
  one_part (x ∷ xs) h =
      let parts = and_parts (not (p x)) (list_all (λ b. not (p b)) xs) h in
      ap (λ (v : Bool). cond v ([] ∷ parts_of xs) (onto_first x (parts_of xs))) (not-true (p x) parts.0) ∙ ap (onto_first x) (one_part xs parts.1)

  pub part_then : (c : ℕ) (xs ys : List ℕ) → p c ≡ true → list_all (λ b. not (p b)) xs ≡ true → parts_of (xs ++ c ∷ ys) ≡ xs ∷ parts_of ys
  part_then c xs ys e h = parted c xs ys e ∙ ap (λ (ts : List (List ℕ)). ts ++ parts_of ys) (one_part xs h)

-- TOKENS

word_spaceless : (xs : List ℕ) → is_word xs ≡ true → list_all (λ b. not (is_space b)) xs ≡ true
word_spaceless [] h = refl
word_spaceless (x ∷ xs) h =
    let parts = and_parts (is_plain x) (is_word xs) h in
    and_from (not (is_space x)) (list_all (λ b. not (is_space b)) xs) (and_parts (not (x == 32)) (not (x == 10)) parts.0).0 (word_spaceless xs parts.1)

-- a space parts two lists of tokens
pub tokens_both : (xs ys : List ℕ) → tokens (xs ++ 32 ∷ ys) ≡ tokens xs ++ tokens ys
tokens_both xs ys = parted is_space 32 xs ys refl

-- a word is one token
pub one_token : (xs : List ℕ) → is_word xs ≡ true → tokens xs ≡ xs ∷ []
one_token xs h = one_part is_space xs (word_spaceless xs h)

-- a word and then others
pub word_then : (xs ys : List ℕ) → is_word xs ≡ true → tokens (xs ++ 32 ∷ ys) ≡ xs ∷ tokens ys
word_then xs ys h = part_then is_space 32 xs ys refl (word_spaceless xs h)
