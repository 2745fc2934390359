-- What bytes begin with is the same, whatever follows them, but where bytes lack.
use Rattle.std.proofs.Common.{◌≡◌, ◌<◌, ◌≤◌, ◌==◌, ◌&&◌, not, nat_lt, ℕ, zero, suc, Bool, List, [], ◌∷◌, ◌++◌, length, Option, Some, None, Result, Ok, Err, refl, sym, ap, ap₂, subst, ◌∙◌, ⊎_elim, arith, length-append, slice_index}
use Rattle.std.proofs.lemmas.Bool.{cases_lt, lt-ltb, le-ltb}
use Rattle.std.proofs.lemmas.List.{take-append-le, get_or_append_left, length-take}
use Rattle.xl_base.specs.Refusals.{first_of, refused_if}
use Rattle.xl_wire.specs.declared.body.Body.{Body}
use Rattle.xl_wire.specs.declared.decoding.Decoded.TheVariants as decoded
use Rattle.xl_wire.specs.declared.frame.Frame.{Frame}
use Rattle.xl_wire.specs.declared.refusal.WireRefusal.{WireRefusal}
use Rattle.xl_wire.specs.declared.refusal.WireRefusal.TheVariants.{Magic, Version, Kind, Length}
use Rattle.xl_wire.specs.Bodies.{body_of}
use Rattle.xl_wire.specs.Frames.{raw_of, Spells, with_body, with_bodies, decoded_of}
use Rattle.xl_wire.specs.Heads.{Split, differs, version_in, kind_in, length_in, head_refusal, lacking, raw_in, split_of, split_unless}
use Rattle.xl_wire.specs.Heads.Split.{Whole, Need, Refused}
use Rattle.xl_wire.specs.Kinds.{is_version, is_kind, can_have, span}
use Rattle.xl_wire.specs.Raws.{RawFrame, SpellsRaw}
use Rattle.xl_wire.proofs.FeedLaws.{frame_there}
use Rattle.xl_wire.proofs.FrameLaws.{decoded_spelled, spelled_decoded, spelled_raw}
use Rattle.xl_wire.proofs.Numbers.{IsBytes}
use Rattle.xl_wire.proofs.RawLaws.{length-raw_bytes, split_spelled, spelled_split}

-- the first cause stays the first, where later ones join it
first_stays : (a b c d e : Option WireRefusal) (r : WireRefusal) → first_of (a ∷ None ∷ None ∷ None ∷ None ∷ []) ≡ Some r → first_of (a ∷ b ∷ c ∷ d ∷ e ∷ []) ≡ Some r
first_stays None b c d e r is = cc
first_stays (Some x) b c d e r is = is

second_stays : (a b c d e : Option WireRefusal) (r : WireRefusal) → first_of (a ∷ b ∷ None ∷ None ∷ None ∷ []) ≡ Some r → first_of (a ∷ b ∷ c ∷ d ∷ e ∷ []) ≡ Some r
second_stays None b c d e r is = first_stays b c d e None r is
second_stays (Some x) b c d e r is = is

third_stays : (a b c d e : Option WireRefusal) (r : WireRefusal) → first_of (a ∷ b ∷ c ∷ None ∷ None ∷ []) ≡ Some r → first_of (a ∷ b ∷ c ∷ d ∷ e ∷ []) ≡ Some r
third_stays None b c d e r is = second_stays b c d e None r is
third_stays (Some x) b c d e r is = is

fourth_stays : (a b c d e : Option WireRefusal) (r : WireRefusal) → first_of (a ∷ b ∷ c ∷ d ∷ None ∷ []) ≡ Some r → first_of (a ∷ b ∷ c ∷ d ∷ e ∷ []) ≡ Some r
fourth_stays None b c d e r is = third_stays b c d e None r is
fourth_stays (Some x) b c d e r is = is

-- the tests, in their order
abbrev mark_0 : List ℕ → Option WireRefusal
mark_0 bytes = refused_if (differs bytes 0 0x58) (Magic 0)

abbrev mark_1 : List ℕ → Option WireRefusal
mark_1 bytes = refused_if (differs bytes 1 0x4C) (Magic 1)

abbrev version_of : List ℕ → Option WireRefusal
version_of bytes = refused_if (nat_lt 2 (length bytes) && not (is_version (version_in bytes))) (Version (version_in bytes))

abbrev kind_test : List ℕ → Option WireRefusal
kind_test bytes = refused_if (nat_lt 3 (length bytes) && not (is_kind (version_in bytes) (kind_in bytes))) (Kind (kind_in bytes))

abbrev length_test : List ℕ → Option WireRefusal
length_test bytes = refused_if (nat_lt 5 (length bytes) && not (can_have (version_in bytes) (kind_in bytes) (length_in bytes))) (Length (kind_in bytes) (length_in bytes))

length_in_stays : (xs ys : List ℕ) → 5 < length xs → length_in (xs ++ ys) ≡ length_in xs
length_in_stays (a ∷ b ∷ c ∷ d ∷ e ∷ f ∷ xs) ys there = refl
length_in_stays xs ys there = absurd (omega arith)

module _ (xs ys : List ℕ) where
  byte_stays : (place : ℕ) → place < length xs → slice_index (xs ++ ys) place ≡ slice_index xs place
  byte_stays place there = get_or_append_left xs ys 0 place there

  test_stays : (place : ℕ) → place < length xs → nat_lt place (length (xs ++ ys)) ≡ nat_lt place (length xs)
  test_stays place there = lt-ltb place (length (xs ++ ys)) (omega (arith, there, length-append xs ys)) ∙ sym (lt-ltb place (length xs) there)

  mark_0_stays : 0 < length xs → mark_0 (xs ++ ys) ≡ mark_0 xs
  mark_0_stays there = ap₂ (λ (t : Bool) (b : ℕ). refused_if (t && not (b == 0x58)) (Magic 0)) (test_stays 0 there) (byte_stays 0 there)

  mark_1_stays : 1 < length xs → mark_1 (xs ++ ys) ≡ mark_1 xs
  mark_1_stays there = ap₂ (λ (t : Bool) (b : ℕ). refused_if (t && not (b == 0x4C)) (Magic 1)) (test_stays 1 there) (byte_stays 1 there)

  version_stays : 2 < length xs → version_of (xs ++ ys) ≡ version_of xs
  version_stays there = ap₂ (λ (t : Bool) (b : ℕ). refused_if (t && not (is_version b)) (Version b)) (test_stays 2 there) (byte_stays 2 there)

  kind_stays : 3 < length xs → kind_test (xs ++ ys) ≡ kind_test xs
  kind_stays there =
      ap₂ (λ (t : Bool) (b : ℕ). refused_if (t && not (is_kind (version_in (xs ++ ys)) b)) (Kind b)) (test_stays 3 there) (byte_stays 3 there)
      ∙ ap (λ (v : ℕ). refused_if (nat_lt 3 (length xs) && not (is_kind v (kind_in xs))) (Kind (kind_in xs))) (byte_stays 2 (omega (arith, there)))

  length_stays : 5 < length xs → length_test (xs ++ ys) ≡ length_test xs
  length_stays there =
      ap₂ (λ (t : Bool) (b : ℕ). refused_if (t && not (can_have (version_in (xs ++ ys)) b (length_in (xs ++ ys)))) (Length b (length_in (xs ++ ys)))) (test_stays 5 there) (byte_stays 3 (omega (arith, there)))
      ∙ ap₂ (λ (v n : ℕ). refused_if (nat_lt 5 (length xs) && not (can_have v (kind_in xs) n)) (Length (kind_in xs) n)) (byte_stays 2 (omega (arith, there))) (length_in_stays xs ys there)

kept_1 : (a b c d e a' b' c' d' e' : Option WireRefusal) (r : WireRefusal) → a' ≡ a → b ≡ None → c ≡ None → d ≡ None → e ≡ None → first_of (a ∷ b ∷ c ∷ d ∷ e ∷ []) ≡ Some r → first_of (a' ∷ b' ∷ c' ∷ d' ∷ e' ∷ []) ≡ Some r
kept_1 a b c d e a' b' c' d' e' r ea eb ec ed ee is = rw ea (first_stays a b' c' d' e' r (rw (eb, ec, ed, ee) at is))

kept_2 : (a b c d e a' b' c' d' e' : Option WireRefusal) (r : WireRefusal) → a' ≡ a → b' ≡ b → c ≡ None → d ≡ None → e ≡ None → first_of (a ∷ b ∷ c ∷ d ∷ e ∷ []) ≡ Some r → first_of (a' ∷ b' ∷ c' ∷ d' ∷ e' ∷ []) ≡ Some r
kept_2 a b c d e a' b' c' d' e' r ea eb ec ed ee is = rw (ea, eb) (second_stays a b c' d' e' r (rw (ec, ed, ee) at is))

kept_3 : (a b c d e a' b' c' d' e' : Option WireRefusal) (r : WireRefusal) → a' ≡ a → b' ≡ b → c' ≡ c → d ≡ None → e ≡ None → first_of (a ∷ b ∷ c ∷ d ∷ e ∷ []) ≡ Some r → first_of (a' ∷ b' ∷ c' ∷ d' ∷ e' ∷ []) ≡ Some r
kept_3 a b c d e a' b' c' d' e' r ea eb ec ed ee is = rw (ea, eb, ec) (third_stays a b c d' e' r (rw (ed, ee) at is))

kept_4 : (a b c d e a' b' c' d' e' : Option WireRefusal) (r : WireRefusal) → a' ≡ a → b' ≡ b → c' ≡ c → d' ≡ d → e ≡ None → first_of (a ∷ b ∷ c ∷ d ∷ e ∷ []) ≡ Some r → first_of (a' ∷ b' ∷ c' ∷ d' ∷ e' ∷ []) ≡ Some r
kept_4 a b c d e a' b' c' d' e' r ea eb ec ed ee is = rw (ea, eb, ec, ed) (fourth_stays a b c d e' r (rw ee at is))

kept_5 : (a b c d e a' b' c' d' e' : Option WireRefusal) (r : WireRefusal) → a' ≡ a → b' ≡ b → c' ≡ c → d' ≡ d → e' ≡ e → first_of (a ∷ b ∷ c ∷ d ∷ e ∷ []) ≡ Some r → first_of (a' ∷ b' ∷ c' ∷ d' ∷ e' ∷ []) ≡ Some r
kept_5 a b c d e a' b' c' d' e' r ea eb ec ed ee is = rw (ea, eb, ec, ed, ee) is

-- a cause that the bytes show is shown by more bytes
head_stays : (xs ys : List ℕ) (r : WireRefusal) → head_refusal xs ≡ Some r → head_refusal (xs ++ ys) ≡ Some r
head_stays xs ys r is =
    let zs = xs ++ ys in
    ⊎_elim
    (λ six. kept_5 (mark_0 xs) (mark_1 xs) (version_of xs) (kind_test xs) (length_test xs) (mark_0 zs) (mark_1 zs) (version_of zs) (kind_test zs) (length_test zs) r
    (mark_0_stays xs ys (omega (arith, six))) (mark_1_stays xs ys (omega (arith, six))) (version_stays xs ys (omega (arith, six))) (kind_stays xs ys (omega (arith, six))) (length_stays xs ys six) is)
    (λ few. ⊎_elim
    (λ four. kept_4 (mark_0 xs) (mark_1 xs) (version_of xs) (kind_test xs) (length_test xs) (mark_0 zs) (mark_1 zs) (version_of zs) (kind_test zs) (length_test zs) r
    (mark_0_stays xs ys (omega (arith, four))) (mark_1_stays xs ys (omega (arith, four))) (version_stays xs ys (omega (arith, four))) (kind_stays xs ys four) (no_length few) is)
    (λ three. ⊎_elim
    (λ two. kept_3 (mark_0 xs) (mark_1 xs) (version_of xs) (kind_test xs) (length_test xs) (mark_0 zs) (mark_1 zs) (version_of zs) (kind_test zs) (length_test zs) r
    (mark_0_stays xs ys (omega (arith, two))) (mark_1_stays xs ys (omega (arith, two))) (version_stays xs ys two) (no_kind three) (no_length few) is)
    (λ short. ⊎_elim
    (λ one. kept_2 (mark_0 xs) (mark_1 xs) (version_of xs) (kind_test xs) (length_test xs) (mark_0 zs) (mark_1 zs) (version_of zs) (kind_test zs) (length_test zs) r
    (mark_0_stays xs ys (omega (arith, one))) (mark_1_stays xs ys one) (no_version short) (no_kind three) (no_length few) is)
    (λ least. ⊎_elim
    (λ some. kept_1 (mark_0 xs) (mark_1 xs) (version_of xs) (kind_test xs) (length_test xs) (mark_0 zs) (mark_1 zs) (version_of zs) (kind_test zs) (length_test zs) r
    (mark_0_stays xs ys some) (no_mark_1 least) (no_version short) (no_kind three) (no_length few) is)
    (λ none. absurd (no_cause none is))
    (cases_lt 0 (length xs)))
    (cases_lt 1 (length xs)))
    (cases_lt 2 (length xs)))
    (cases_lt 3 (length xs)))
    (cases_lt 5 (length xs))
  where
    no_length : length xs ≤ 5 → length_test xs ≡ None
    no_length few = ap (λ (t : Bool). refused_if (t && not (can_have (version_in xs) (kind_in xs) (length_in xs))) (Length (kind_in xs) (length_in xs))) (le-ltb 5 (length xs) few)

    no_kind : length xs ≤ 3 → kind_test xs ≡ None
    no_kind few = ap (λ (t : Bool). refused_if (t && not (is_kind (version_in xs) (kind_in xs))) (Kind (kind_in xs))) (le-ltb 3 (length xs) few)

    no_version : length xs ≤ 2 → version_of xs ≡ None
    no_version few = ap (λ (t : Bool). refused_if (t && not (is_version (version_in xs))) (Version (version_in xs))) (le-ltb 2 (length xs) few)

    no_mark_1 : length xs ≤ 1 → mark_1 xs ≡ None
    no_mark_1 few = ap (λ (t : Bool). refused_if (t && not (slice_index xs 1 == 0x4C)) (Magic 1)) (le-ltb 1 (length xs) few)

    none_of : (bytes : List ℕ) → length bytes ≤ 0 → head_refusal bytes ≡ Some r → ⊥
    none_of [] few is = cc
    none_of (b ∷ bytes) few is = omega arith

    no_cause : length xs ≤ 0 → head_refusal xs ≡ Some r → ⊥
    no_cause few is = none_of xs few is

refused_head : (o : Option WireRefusal) (lack : ℕ) (raw : RawFrame) (r : WireRefusal) → split_unless o lack raw ≡ Refused r → o ≡ Some r
refused_head None zero raw r e = absurd cc
refused_head None (suc lack) raw r e = absurd cc
refused_head (Some s) lack raw r e = cc

needs_some : (o : Option WireRefusal) (lack : ℕ) (raw : RawFrame) (n : ℕ) → split_unless o lack raw ≡ Need n → 0 < n
needs_some None zero raw n e = absurd cc
needs_some None (suc lack) raw n e = let same : suc lack ≡ n = cc in omega (arith, same)
needs_some (Some s) lack raw n e = absurd cc

whole_stays : (xs ys : List ℕ) (raw : RawFrame) → IsBytes xs → split_of xs ≡ Whole raw → split_of (xs ++ ys) ≡ Whole raw
whole_stays xs ys raw fits is =
    let spells = split_spelled xs raw fits is in
    let there = frame_there xs raw spells in
    spelled_split (xs ++ ys) raw (subst (λ (bytes : List ℕ). SpellsRaw raw bytes) (sym (take-append-le (span raw.body) xs ys there)) spells)

refused_stays : (xs ys : List ℕ) (r : WireRefusal) → split_of xs ≡ Refused r → split_of (xs ++ ys) ≡ Refused r
refused_stays xs ys r is = rw (head_stays xs ys r (refused_head (head_refusal xs) (lacking xs) (raw_in xs) r is)) refl

-- a frame
pub frame_stays : (xs ys : List ℕ) (f : Frame) (n : ℕ) → IsBytes xs → decoded_of xs ≡ decoded.Whole f n → decoded_of (xs ++ ys) ≡ decoded.Whole f n
frame_stays xs ys f n fits is =
    let spells = decoded_spelled xs f n fits is in
    spelled_decoded (xs ++ ys) f n (record {
      there = omega (arith, spells.there, length-append xs ys);
      spells = subst (λ (bytes : List ℕ). Spells f bytes) (sym (take-append-le n xs ys spells.there)) spells.spells;
    })

pub frame_there_and_some : (xs : List ℕ) (f : Frame) (n : ℕ) → IsBytes xs → decoded_of xs ≡ decoded.Whole f n → (0 < n) × (n ≤ length xs)
frame_there_and_some xs f n fits is =
    let spells = decoded_spelled xs f n fits is in
    let raw = spelled_raw f spells.spells.frame in
    (omega (arith, spells.there, length-take n xs, ap length spells.spells.spelling, length-raw_bytes (raw_of f) raw.tag), spells.there)

by_split_refused : (xs ys : List ℕ) (r : WireRefusal) (s : Split) → IsBytes xs → split_of xs ≡ s → with_bodies s ≡ decoded.Refused r → decoded_of (xs ++ ys) ≡ decoded.Refused r
by_split_refused xs ys r (Whole raw) fits at is = rw (whole_stays xs ys raw fits at) is
by_split_refused xs ys r (Need lack) fits at is = absurd cc
by_split_refused xs ys r (Refused q) fits at is = rw (refused_stays xs ys q at) is

-- a refusal
pub refusal_stays : (xs ys : List ℕ) (r : WireRefusal) → IsBytes xs → decoded_of xs ≡ decoded.Refused r → decoded_of (xs ++ ys) ≡ decoded.Refused r
refusal_stays xs ys r fits is = by_split_refused xs ys r (split_of xs) fits refl is

need_of_body : (raw : RawFrame) (r : Result Body WireRefusal) (n : ℕ) → with_body raw r ≡ decoded.Need n → ⊥
need_of_body raw (Ok body) n e = cc
need_of_body raw (Err refusal) n e = cc

by_split_need : (xs : List ℕ) (n : ℕ) (s : Split) → split_of xs ≡ s → with_bodies s ≡ decoded.Need n → split_of xs ≡ Need n
by_split_need xs n (Whole raw) at is = absurd (need_of_body raw (body_of raw.kind raw.body) n is)
by_split_need xs n (Need lack) at is = let same : lack ≡ n = cc in at ∙ ap Need same
by_split_need xs n (Refused q) at is = absurd cc

pub split_need : (xs : List ℕ) (n : ℕ) → decoded_of xs ≡ decoded.Need n → split_of xs ≡ Need n
split_need xs n is = by_split_need xs n (split_of xs) refl is

-- where bytes lack, some do
pub lack_some : (xs : List ℕ) (n : ℕ) → decoded_of xs ≡ decoded.Need n → 0 < n
lack_some xs n is = needs_some (head_refusal xs) (lacking xs) (raw_in xs) n (split_need xs n is)

some_of_body : (raw : RawFrame) (r : Result Body WireRefusal) (f : Frame) (n : ℕ) → with_body raw r ≡ decoded.Whole f n → 0 < n
some_of_body raw (Ok body) f n e = let long : span raw.body ≡ n = cc in omega (arith, long)
some_of_body raw (Err refusal) f n e = absurd cc

by_split_some : (s : Split) (f : Frame) (n : ℕ) → with_bodies s ≡ decoded.Whole f n → 0 < n
by_split_some (Whole raw) f n e = some_of_body raw (body_of raw.kind raw.body) f n e
by_split_some (Need lack) f n e = absurd cc
by_split_some (Refused refusal) f n e = absurd cc

-- a frame has bytes
pub frame_some : (xs : List ℕ) (f : Frame) (n : ℕ) → decoded_of xs ≡ decoded.Whole f n → 0 < n
frame_some xs f n e = by_split_some (split_of xs) f n e
