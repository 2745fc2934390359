-- Where the first newline stands.
use Rattle.std.proofs.Common.{◌≡◌, ◌+◌, ◌<◌, ◌==◌, ℕ, zero, suc, true, false, List, [], ◌∷◌, ◌++◌, length, take, drop, slice_index, Option, Some, None, refl, ap, ⊎_elim, arith, add-one}
use Rattle.std.proofs.lemmas.Bool.{eqb-true}
use Rattle.std.proofs.lemmas.Bool.Decides.{eqb_tells}
use Rattle.std.specs.List.{list_any}
use Rattle.memchr.specs.Find.{IsFirstByte, is_byte}

-- no newline stands in the bytes
abbrev pub IsOneLine : List ℕ → Type 0
IsOneLine bytes = list_any (λ byte. byte == 10) bytes ≡ false

-- the place of the first newline
abbrev pub FindsNewline : List ℕ → Option ℕ → Type 0
FindsNewline bytes None = IsOneLine bytes
FindsNewline bytes (Some place) = (place < length bytes) × IsOneLine (take place bytes) × (bytes ≡ take place bytes ++ 10 ∷ drop (place + 1) bytes)

-- at no place below this one a newline stands
abbrev IsClear : List ℕ → ℕ → Type 0
IsClear bytes end = (k : ℕ) → k < end → (slice_index bytes k == 10) ≡ true → ⊥

clear_all : (bytes : List ℕ) → IsClear bytes (length bytes) → IsOneLine bytes
clear_all [] clear = refl
clear_all (byte ∷ bytes) clear = ⊎_elim
    (λ t. absurd (clear 0 (omega arith) t.0))
    (λ t. rw t.0 (clear_all bytes (λ k lt. clear (suc k) (omega (arith, lt)))))
    (eqb_tells byte 10)

clear_front : (bytes : List ℕ) (end : ℕ) → IsClear bytes end → IsOneLine (take end bytes)
clear_front [] zero clear = refl
clear_front [] (suc end) clear = refl
clear_front (byte ∷ bytes) zero clear = refl
clear_front (byte ∷ bytes) (suc end) clear = ⊎_elim
    (λ t. absurd (clear 0 (omega arith) t.0))
    (λ t. rw t.0 (clear_front bytes end (λ k lt. clear (suc k) (omega (arith, lt)))))
    (eqb_tells byte 10)

-- the bytes before a newline, and those after it
parted : (bytes : List ℕ) (place : ℕ) → place < length bytes → (slice_index bytes place == 10) ≡ true → bytes ≡ take place bytes ++ 10 ∷ drop (suc place) bytes
parted [] place within test = absurd (omega (arith, within))
parted (byte ∷ bytes) zero within test = ap (λ b. b ∷ bytes) (eqb-true byte 10 test)
parted (byte ∷ bytes) (suc place) within test = ap (λ xs. byte ∷ xs) (parted bytes place (omega (arith, within)) test)

pub finds_newline : (bytes : List ℕ) (found : Option ℕ) → IsFirstByte (is_byte 10) bytes found → FindsNewline bytes found
finds_newline bytes None first = clear_all bytes (λ k lt. first k (omega arith) lt)
finds_newline bytes (Some place) first =
    (first.0.high, clear_front bytes place (λ k lt. first.0.before k (omega arith) lt), rw add-one (parted bytes place first.0.high first.1))
