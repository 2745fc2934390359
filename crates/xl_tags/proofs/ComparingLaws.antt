-- No bit differs exactly if two tags are equal.
use Rattle.std.proofs.Common.{◌≡◌, ℕ, ◌==◌, List, [], ◌∷◌, length, refl, sym, ap, ◌∙◌, arith}
use Rattle.std.specs.Prelude.{fold, bit_or, bit_xor, bytes_eq}
use Rattle.std.specs.Int.Bits.{xor_self, xor_add_and}
use Rattle.std.specs.List.{zip}
use Rattle.std.proofs.lemmas.Bool.{eqb-true, eq-eqb}
use Rattle.std.proofs.lemmas.Bool.Decides.{same_from_decides}
use Rattle.std.proofs.lemmas.Nat.{and_le_l, and_le_r, le_or_l, le_or_r}
use Rattle.std.proofs.lemmas.Slice.Eq.{bytes_eq-Decides}

-- the bits so far, and those in which the bytes of a place differ
abbrev pub with_place : ℕ → ℕ × ℕ → ℕ
with_place bits pair = bit_or bits (bit_xor pair.0 pair.1)

same_byte : (x y : ℕ) → bit_xor x y ≡ 0 → x ≡ y
same_byte x y none = omega (arith, none, xor_add_and x y, and_le_l x y, and_le_r x y)

none_before : (bits x y : ℕ) → with_place bits (x, y) ≡ 0 → (bits ≡ 0) × (x ≡ y)
none_before bits x y none = (omega (arith, none, le_or_l bits (bit_xor x y)), same_byte x y (omega (arith, none, le_or_r bits (bit_xor x y))))

equal_if : (bits : ℕ) (xs ys : List ℕ) → length xs ≡ length ys → fold with_place bits (zip xs ys) ≡ 0 → (bits ≡ 0) × (xs ≡ ys)
equal_if bits [] [] long none = (none, refl)
equal_if bits [] (y ∷ ys) long none = cc
equal_if bits (x ∷ xs) [] long none = cc
equal_if bits (x ∷ xs) (y ∷ ys) long none =
    let rest = equal_if (with_place bits (x, y)) xs ys (omega (arith, long)) none in
    let here = none_before bits x y rest.0 in
    (here.0, cc)

none_if : (xs : List ℕ) → fold with_place 0 (zip xs xs) ≡ 0
none_if [] = refl
none_if (x ∷ xs) = ap (λ bits. fold with_place bits (zip xs xs)) (xor_self x) ∙ none_if xs

-- the test for no bit is the test for equal bytes
pub no_bits : (xs ys : List ℕ) (bits : ℕ) → length xs ≡ length ys → bits ≡ fold with_place 0 (zip xs ys) → (bits == 0) ≡ bytes_eq xs ys
no_bits xs ys bits long is = same_from_decides (bits == 0) (bytes_eq xs ys) (
  λ none. (equal_if 0 xs ys long (sym is ∙ eqb-true bits 0 none)).1,
  λ same. eq-eqb bits 0 (is ∙ ap (λ zs. fold with_place 0 (zip xs zs)) (sym same) ∙ none_if xs),
)
    (bytes_eq-Decides xs ys)
