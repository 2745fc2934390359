-- The frame that has begun gets no longer than the longest.
use Rattle.std.proofs.Common.{◌≡◌, ◌∙◌, ◌+◌, ◌-◌, ◌≤◌, ◌<◌, ◌&&◌, ℕ, zero, suc, Bool, true, false, not, List, [], ◌∷◌, length, Option, Some, None, if◌then◌else◌, nat_lt, refl, sym, ap, arith}
use Rattle.std.proofs.lemmas.Bool.Decides.{nat_tests}
use Rattle.xl_base.specs.Refusals.{refused_if, first_of}
use Rattle.xl_wire.specs.declared.decoding.Decoded.TheVariants as decoded
use Rattle.xl_wire.specs.Lengths.{longest_frame}
use Rattle.xl_wire.specs.declared.refusal.WireRefusal.{WireRefusal}
use Rattle.xl_wire.specs.declared.refusal.WireRefusal.TheVariants.{Magic, Version, Kind, Length}
use Rattle.xl_wire.specs.Frames.{decoded_of}
use Rattle.xl_wire.specs.Heads.{differs, head_refusal, kind_in, lacking, length_in, raw_in, split_unless, version_in}
use Rattle.xl_wire.specs.Heads.Split.{Need}
use Rattle.xl_wire.specs.Kinds.{can_have, can_have_first, is_kind, is_version}
use Rattle.xl_wire.specs.Raws.{RawFrame}
use Rattle.xl_wire.proofs.RawLaws.{by_version}
use Rattle.xl_wire.specs.declared.lengths.TheConstants.{AROUND}
use Rattle.xl_show.proofs.Extending.{lack_some, split_need}

body_fits : (version kind n : ℕ) → can_have version kind n ≡ true → AROUND + n ≤ longest_frame
body_fits = by_version (λ version kind n. AROUND + n ≤ longest_frame) first (omega arith)
  where
    first : (kind n : ℕ) → can_have_first kind n ≡ true → AROUND + n ≤ longest_frame
    first kind n h = grind (arith, nat_tests)

last_none : (a b c d e : Option WireRefusal) → first_of (a ∷ b ∷ c ∷ d ∷ e ∷ []) ≡ None → e ≡ None
last_none None None None None None h = refl
last_none a b c d e h = absurd cc

holds_if : (there lawful : Bool) (r : WireRefusal) → there ≡ true → refused_if (there && not lawful) r ≡ None → lawful ≡ true
holds_if true true r there h = refl
holds_if true false r there h = absurd cc
holds_if false lawful r there h = absurd cc

-- the length, once it is there, is one that a body can have
lawful : (xs : List ℕ) → nat_lt 5 (length xs) ≡ true → head_refusal xs ≡ None → can_have (version_in xs) (kind_in xs) (length_in xs) ≡ true
lawful xs long none =
    holds_if (nat_lt 5 (length xs)) (can_have (version_in xs) (kind_in xs) (length_in xs)) (Length (kind_in xs) (length_in xs)) long
    (last_none (refused_if (differs xs 0 0x58) (Magic 0)) (refused_if (differs xs 1 0x4C) (Magic 1))
    (refused_if (nat_lt 2 (length xs) && not (is_version (version_in xs))) (Version (version_in xs)))
    (refused_if (nat_lt 3 (length xs) && not (is_kind (version_in xs) (kind_in xs))) (Kind (kind_in xs)))
    (refused_if (nat_lt 5 (length xs) && not (can_have (version_in xs) (kind_in xs) (length_in xs))) (Length (kind_in xs) (length_in xs)))
    none)

-- nothing is refused, and so many bytes lack
of_need : (o : Option WireRefusal) (lack n : ℕ) (raw : RawFrame) → split_unless o lack raw ≡ Need n → (o ≡ None) × (lack ≡ n)
of_need (Some refusal) lack n raw h = absurd cc
of_need None zero n raw h = absurd cc
of_need None (suc lack) n raw h = let same : suc lack ≡ n = cc in (refl, same)

pub need_fits : (xs : List ℕ) (n : ℕ) → decoded_of xs ≡ decoded.Need n → length xs + n ≤ longest_frame
need_fits xs n is =
    let some = lack_some xs n is in
    let both = of_need (head_refusal xs) (lacking xs) n (raw_in xs) (split_need xs n is) in
    by_length (nat_lt (length xs) 6) refl some both
  where
    by_length : (short : Bool) → nat_lt (length xs) 6 ≡ short → 0 < n → (head_refusal xs ≡ None) × (lacking xs ≡ n) → length xs + n ≤ longest_frame
    by_length true at some both =
        let lack : 6 - length xs ≡ n = sym (ap (λ (b : Bool). if b then 6 - length xs else AROUND + length_in xs - length xs) at) ∙ both.1 in
        grind (arith, nat_tests, at, lack)
    by_length false at some both =
        let lack : AROUND + length_in xs - length xs ≡ n = sym (ap (λ (b : Bool). if b then 6 - length xs else AROUND + length_in xs - length xs) at) ∙ both.1 in
        let long : nat_lt 5 (length xs) ≡ true = grind (arith, nat_tests, at) in
        let body = body_fits (version_in xs) (kind_in xs) (length_in xs) (lawful xs long both.0) in
        omega (arith, some, lack, body)
