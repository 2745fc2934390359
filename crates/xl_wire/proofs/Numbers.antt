-- Fields of bytes: a number that is read is the one that was written, and the other way round.
use Rattle.std.proofs.Common.{◌≡◌, ℕ, ◌+◌, ◌^◌, ◌<◌, ◌≤◌, List, ◌++◌, length, get_or, take, drop, sym, ap, ◌∙◌, arith, inl, inr}
use Rattle.std.specs.Int.{w16, w32, from_be_bytes}
use Rattle.std.proofs.lemmas.Bool.{cases_lt}
use Rattle.std.proofs.lemmas.List.{take-append-drop, drop-drop, length-take, length-drop, get_or-drop, get_or-take, get_or_past}
use Rattle.std.proofs.lemmas.Nat.{be_bytes_2, be_bytes_4}
use Rattle.byteorder.specs.Endian.{big_bytes, big_number}
use Rattle.byteorder.specs.Numbers.{big_from-lt}

abbrev pub IsBytes : List ℕ → Type 0
IsBytes bytes = (i : ℕ) → get_or bytes i 0 < 256

pub IsBytes-drop : (n : ℕ) (bytes : List ℕ) → IsBytes bytes → IsBytes (drop n bytes)
IsBytes-drop n bytes h i = rw get_or-drop (h (n + i))

pub IsBytes-take : (n : ℕ) (bytes : List ℕ) → IsBytes bytes → IsBytes (take n bytes)
IsBytes-take n bytes h i =
    elim (cases_lt i n) [
      | inl lt ↦ rw (get_or-take n bytes i 0 lt) (h i)
      | inr le ↦ rw (get_or_past (take n bytes) i 0 (omega (arith, length-take n bytes))) (omega arith)
    ]

-- the bytes at a place, and those after them
pub cut_at : (at n : ℕ) (bytes : List ℕ) → drop at bytes ≡ take n (drop at bytes) ++ drop (at + n) bytes
cut_at at n bytes = sym (take-append-drop n (drop at bytes)) ∙ ap (λ (x : List ℕ). take n (drop at bytes) ++ x) (drop-drop n at bytes)

pub written_2 : (bytes : List ℕ) → IsBytes bytes → 2 ≤ length bytes → big_bytes 2 (big_number 2 bytes) ≡ take 2 bytes
written_2 bytes fits long =
    let a = get_or-take 2 bytes 0 0 (omega arith) in
    let b = get_or-take 2 bytes 1 0 (omega arith) in
    let same : big_number 2 bytes ≡ from_be_bytes w16 (take 2 bytes) = omega (arith, a, b) in
    be_bytes_2 (take 2 bytes) (big_number 2 bytes) (omega (arith, length-take 2 bytes)) (IsBytes-take 2 bytes fits) same

pub written_4 : (bytes : List ℕ) → IsBytes bytes → 4 ≤ length bytes → big_bytes 4 (big_number 4 bytes) ≡ take 4 bytes
written_4 bytes fits long =
    let a = get_or-take 4 bytes 0 0 (omega arith) in
    let b = get_or-take 4 bytes 1 0 (omega arith) in
    let c = get_or-take 4 bytes 2 0 (omega arith) in
    let d = get_or-take 4 bytes 3 0 (omega arith) in
    let same : big_number 4 bytes ≡ from_be_bytes w32 (take 4 bytes) = omega (arith, a, b, c, d) in
    be_bytes_4 (take 4 bytes) (big_number 4 bytes) (omega (arith, length-take 4 bytes)) (IsBytes-take 4 bytes fits) same

-- the number at a place is spelled there
pub number_at_4 : (at : ℕ) (bytes : List ℕ) → IsBytes bytes → at + 4 ≤ length bytes → drop at bytes ≡ big_bytes 4 (big_number 4 (drop at bytes)) ++ drop (at + 4) bytes
number_at_4 at bytes fits long =
    let spelled = written_4 (drop at bytes) (IsBytes-drop at bytes fits) (omega (arith, length-drop at bytes)) in
    cut_at at 4 bytes ∙ ap (λ (x : List ℕ). x ++ drop (at + 4) bytes) (sym spelled)

pub number_at_2 : (at : ℕ) (bytes : List ℕ) → IsBytes bytes → at + 2 ≤ length bytes → drop at bytes ≡ big_bytes 2 (big_number 2 (drop at bytes)) ++ drop (at + 2) bytes
number_at_2 at bytes fits long =
    let spelled = written_2 (drop at bytes) (IsBytes-drop at bytes fits) (omega (arith, length-drop at bytes)) in
    cut_at at 2 bytes ∙ ap (λ (x : List ℕ). x ++ drop (at + 2) bytes) (sym spelled)

pub below_4 : (bytes : List ℕ) → IsBytes bytes → big_number 4 bytes < 2 ^ 32
below_4 bytes fits = omega (arith, big_from-lt 0 4 bytes fits)
