-- Parts that are joined, and lists that are cut into parts.
use Rattle.std.proofs.Common.{◌≡◌, ◌+◌, ◌≤◌, ◌==◌, ℕ, Bool, true, false, not, cond, List, [], ◌∷◌, ◌++◌, length, filter, refl, ap, sym, ◌∙◌, subst, arith, length-append}
use Rattle.std.specs.List.{slice_split, onto_first, join_with_byte, AllByRecursion}
use Rattle.std.proofs.lemmas.Bool.Decides.{nat_tests}
use Rattle.std.proofs.lemmas.List.Splits.{slice_split-cons_yes, slice_split-cons_no}
use Rattle.xl_sched.specs.Tokens.{tokens, is_blank}

-- none of these passes
abbrev pub Clear : (ℕ → Bool) → List ℕ → Type 0
Clear p xs = AllByRecursion (λ b. p b ≡ false) xs

cut-none : (p : ℕ → Bool) (xs : List ℕ) → Clear p xs → slice_split p xs ≡ xs ∷ []
cut-none p [] h = refl
cut-none p (x ∷ xs) h = slice_split-cons_no p x xs h.0 ∙ ap (onto_first x) (cut-none p xs h.1)

cut-at : (p : ℕ → Bool) (xs : List ℕ) (y : ℕ) (ys : List ℕ) → Clear p xs → p y ≡ true → slice_split p (xs ++ y ∷ ys) ≡ xs ∷ slice_split p ys
cut-at p [] y ys h e = slice_split-cons_yes p y ys e
cut-at p (x ∷ xs) y ys h e = slice_split-cons_no p x (xs ++ y ∷ ys) h.0 ∙ ap (onto_first x) (cut-at p xs y ys h.1 e)

-- parts are cut where they were joined
pub cut-joined : (c : ℕ) (p : ℕ → Bool) (part : List ℕ) (parts : List (List ℕ)) → p c ≡ true → Clear p part → AllByRecursion (Clear p) parts → slice_split p (join_with_byte c (part ∷ parts)) ≡ part ∷ parts
cut-joined c p part [] e h hs = cut-none p part h
cut-joined c p part (next ∷ parts) e h hs =
    cut-at p part c (join_with_byte c (next ∷ parts)) h e ∙ ap (λ rest. part ∷ rest) (cut-joined c p next parts e hs.0 hs.1)

-- what a token is: some bytes, none of which is a blank
abbrev pub IsToken : List ℕ → Type 0
IsToken t = (1 ≤ length t) × Clear is_blank t

pub filter-kept : (t : List ℕ) (ts : List (List ℕ)) → 1 ≤ length t → filter (λ run. not (length run == 0)) (t ∷ ts) ≡ t ∷ filter (λ run. not (length run == 0)) ts
filter-kept [] ts h = absurd (omega arith)
filter-kept (b ∷ bs) ts h = grind (arith, nat_tests)

filter-all : (ts : List (List ℕ)) → AllByRecursion IsToken ts → filter (λ run. not (length run == 0)) ts ≡ ts
filter-all [] h = refl
filter-all (t ∷ ts) h = filter-kept t ts h.0.0 ∙ ap (λ rest. t ∷ rest) (filter-all ts h.1)

clear-all : (ts : List (List ℕ)) → AllByRecursion IsToken ts → AllByRecursion (Clear is_blank) ts
clear-all [] h = tt
clear-all (t ∷ ts) h = (h.0.1, clear-all ts h.1)

-- a line that is joined of tokens has these tokens
pub tokens-joined : (ts : List (List ℕ)) → AllByRecursion IsToken ts → tokens (join_with_byte 32 ts) ≡ ts
tokens-joined [] h = refl
tokens-joined (t ∷ ts) h =
    ap (λ runs. filter (λ run. not (length run == 0)) runs) (cut-joined 32 is_blank t ts refl h.0.1 (clear-all ts h.1)) ∙ filter-all (t ∷ ts) h

onto-all : (P : ℕ → Type 0) (x : ℕ) (parts : List (List ℕ)) → P x → AllByRecursion (AllByRecursion P) parts → AllByRecursion (AllByRecursion P) (onto_first x parts)
onto-all P x [] h hs = ((h, tt), tt)
onto-all P x (part ∷ parts) h hs = ((h, hs.0), hs.1)

-- what all elements have, all parts have
pub cut-all : (P : ℕ → Type 0) (p : ℕ → Bool) (xs : List ℕ) → AllByRecursion P xs → AllByRecursion (AllByRecursion P) (slice_split p xs)
cut-all P p [] h = (tt, tt)
cut-all P p (x ∷ xs) h =
    elim (p x) as (λ b. AllByRecursion (AllByRecursion P) (cond b ([] ∷ slice_split p xs) (onto_first x (slice_split p xs)))) [
      | true ↦ (tt, cut-all P p xs h.1)
      | false ↦ onto-all P x (slice_split p xs) h.0 (cut-all P p xs h.1)
    ]

-- no part has an element at which the list was cut
pub cut-clear : (p : ℕ → Bool) (xs : List ℕ) → AllByRecursion (Clear p) (slice_split p xs)
cut-clear p [] = (tt, tt)
cut-clear p (x ∷ xs) =
    elim (p x) as (λ b. p x ≡ b → AllByRecursion (Clear p) (cond b ([] ∷ slice_split p xs) (onto_first x (slice_split p xs)))) [
      | true ↦ λ _. (tt, cut-clear p xs)
      | false ↦ λ e. onto-all (λ b. p b ≡ false) x (slice_split p xs) e (cut-clear p xs)
    ] refl

kept-all : (P : List ℕ → Type 0) (ts : List (List ℕ)) → AllByRecursion P ts → AllByRecursion (λ t. (1 ≤ length t) × P t) (filter (λ run. not (length run == 0)) ts)
kept-all P [] h = tt
kept-all P ([] ∷ ts) h = kept-all P ts h.1
kept-all P ((b ∷ bs) ∷ ts) h =
    subst (λ (kept : List (List ℕ)). AllByRecursion (λ t. (1 ≤ length t) × P t) kept) (sym (filter-kept (b ∷ bs) ts (omega arith))) ((omega arith, h.0), kept-all P ts h.1)

-- the tokens of a line are tokens
pub tokens-are : (line : List ℕ) → AllByRecursion IsToken (tokens line)
tokens-are line = kept-all (Clear is_blank) (slice_split is_blank line) (cut-clear is_blank line)

-- and have the bytes of the line
pub tokens-all : (P : ℕ → Type 0) (line : List ℕ) → AllByRecursion P line → AllByRecursion (λ t. (1 ≤ length t) × AllByRecursion P t) (tokens line)
tokens-all P line h = kept-all (AllByRecursion P) (slice_split is_blank line) (cut-all P is_blank line h)

-- the bytes of parts, with one more for each
abbrev pub spread : List (List ℕ) → ℕ
spread [] = 0
spread (t ∷ ts) = length t + 1 + spread ts

onto-spread : (x : ℕ) (parts : List (List ℕ)) (n : ℕ) → spread parts ≡ n + 1 → spread (onto_first x parts) ≡ n + 2
onto-spread x [] n h = omega (arith, h)
onto-spread x (part ∷ parts) n h = omega (arith, h)

cut-spread : (p : ℕ → Bool) (xs : List ℕ) → spread (slice_split p xs) ≡ length xs + 1
cut-spread p [] = refl
cut-spread p (x ∷ xs) =
    elim (p x) as (λ b. spread (cond b ([] ∷ slice_split p xs) (onto_first x (slice_split p xs))) ≡ length (x ∷ xs) + 1) [
      | true ↦ omega (arith, cut-spread p xs)
      | false ↦ omega (arith, onto-spread x (slice_split p xs) (length xs) (cut-spread p xs))
    ]

kept-spread : (ts : List (List ℕ)) → spread (filter (λ run. not (length run == 0)) ts) ≤ spread ts
kept-spread [] = omega arith
kept-spread ([] ∷ ts) = omega (arith, kept-spread ts)
kept-spread ((b ∷ bs) ∷ ts) = omega (arith, ap spread (filter-kept (b ∷ bs) ts (omega arith)), kept-spread ts)

-- tokens take no more than their line
pub tokens-spread : (line : List ℕ) → spread (tokens line) ≤ length line + 1
tokens-spread line = omega (arith, kept-spread (slice_split is_blank line), cut-spread is_blank line)

-- and what is joined takes one less
pub joined-spread : (c : ℕ) (t : List ℕ) (ts : List (List ℕ)) → length (join_with_byte c (t ∷ ts)) + 1 ≡ spread (t ∷ ts)
joined-spread c t [] = omega arith
joined-spread c t (next ∷ ts) = omega (arith, joined-spread c next ts, length-append t (c ∷ join_with_byte c (next ∷ ts)))

append-all : (P : ℕ → Type 0) (xs ys : List ℕ) → AllByRecursion P xs → AllByRecursion P ys → AllByRecursion P (xs ++ ys)
append-all P [] ys h k = k
append-all P (x ∷ xs) ys h k = (h.0, append-all P xs ys h.1 k)

-- what all parts have, all that is joined of them has, where the byte between them has it
pub joined-all : (P : ℕ → Type 0) (c : ℕ) (ts : List (List ℕ)) → P c → AllByRecursion (AllByRecursion P) ts → AllByRecursion P (join_with_byte c ts)
joined-all P c [] h hs = tt
joined-all P c (t ∷ []) h hs = hs.0
joined-all P c (t ∷ next ∷ ts) h hs = append-all P t (c ∷ join_with_byte c (next ∷ ts)) hs.0 (h, joined-all P c (next ∷ ts) h hs.1)
