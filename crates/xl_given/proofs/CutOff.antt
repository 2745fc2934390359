-- Frames are cut off one after the other.
use Rattle.std.proofs.Common.{◌≡◌, ℕ, zero, suc, ◌≤◌, List, [], ◌∷◌, ◌++◌, length, map, take, drop, refl, arith, ap, sym, ◌∙◌}
use Rattle.std.proofs.lemmas.List.{append_assoc, append-nil, length-drop, length-take, length-take-le}
use Rattle.xl_wire.specs.Heads.{Split, parts, split_of}
use Rattle.xl_wire.specs.Heads.Split.{Whole, Need, Refused}
use Rattle.xl_wire.specs.Kinds.{span}
use Rattle.xl_wire.specs.Raws.{RawFrame, SpellsRaw}
use Rattle.xl_wire.specs.declared.splitting.Parted.{Parted}
use Rattle.xl_wire.specs.declared.splitting.Parted.TheVariants as parted
use Rattle.xl_given.specs.Cutting.{cut, cut_off, frames_of, noted_as, noted_from}
use Rattle.xl_wire.proofs.FeedLaws.{frame_there}
use Rattle.xl_given.specs.Given.{Noted}
use Rattle.xl_given.specs.Kept.{HasNoFirst, IsFirst}

-- more frames than bytes are not asked for
fuel : (n m : ℕ) (bytes : List ℕ) → length bytes ≤ n → length bytes ≤ m → cut n bytes ≡ cut m bytes
fuel zero zero bytes a b = refl
fuel zero (suc m) [] a b = refl
fuel zero (suc m) (x ∷ xs) a b = absurd (omega arith)
fuel (suc n) zero [] a b = refl
fuel (suc n) zero (x ∷ xs) a b = absurd (omega arith)
fuel (suc n) (suc m) bytes a b =
    by (split_of bytes) (λ (f : RawFrame).
    fuel n m (drop (span f.body) bytes) (omega (arith, a, length-drop (span f.body) bytes)) (omega (arith, b, length-drop (span f.body) bytes)))
  where
    by : (s : Split) → ((f : RawFrame) → cut n (drop (span f.body) bytes) ≡ cut m (drop (span f.body) bytes))
        → cut_off (cut n) bytes s ≡ cut_off (cut m) bytes s
    by (Whole f) same = ap (λ r. take (span f.body) bytes ∷ r) (same f)
    by (Need lack) same = refl
    by (Refused why) same = refl

-- the first one, and those behind it
pub first_cut : (bytes : List ℕ) (f : RawFrame) → split_of bytes ≡ Whole f
    → frames_of bytes ≡ take (span f.body) bytes ∷ frames_of (drop (span f.body) bytes)
first_cut [] f is = absurd cc
first_cut (x ∷ xs) f is =
    ap (cut_off (cut (length xs)) (x ∷ xs)) is
    ∙ ap (λ r. take (span f.body) (x ∷ xs) ∷ r)
    (fuel (length xs) (length (drop (span f.body) (x ∷ xs))) (drop (span f.body) (x ∷ xs)) (omega (arith, length-drop (span f.body) (x ∷ xs))) (omega arith))

none_cut : (bytes : List ℕ) → ((f : RawFrame) → split_of bytes ≡ Whole f → ⊥) → frames_of bytes ≡ []
none_cut [] none = refl
none_cut (x ∷ xs) none = by (split_of (x ∷ xs)) refl
  where
    by : (s : Split) → split_of (x ∷ xs) ≡ s → cut_off (cut (length xs)) (x ∷ xs) s ≡ []
    by (Whole f) is = absurd (none f is)
    by (Need lack) is = refl
    by (Refused why) is = refl

-- one more was noted
pub noted_next : (m journal entry : ℕ) (rest frame behind : List ℕ) (old now whole : List Noted) → IsFirst rest frame
    → behind ≡ drop (length frame) rest → now ≡ old ++ noted_as m journal entry frame ∷ []
    → old ++ noted_from m journal entry rest ≡ whole → now ++ noted_from m journal entry behind ≡ whole
noted_next m journal entry rest frame behind old now whole first behind_is more inv =
    let f : RawFrame = first.raw in
    ap (λ xs. xs ++ noted_from m journal entry behind) (more ∙ ap (λ fr. old ++ noted_as m journal entry fr ∷ []) first.is)
    ∙ (append_assoc old (noted_as m journal entry (take (span f.body) rest) ∷ []) (noted_from m journal entry behind)
    ∙ (ap (λ b. old ++ noted_as m journal entry (take (span f.body) rest) ∷ noted_from m journal entry b)
    (behind_is ∙ ap (λ n. drop n rest) first.long)
    ∙ (ap (λ fs. old ++ map (noted_as m journal entry) fs) (sym (first_cut rest f first.splits)) ∙ inv)))

-- nothing is left
pub noted_all : (m journal entry : ℕ) (rest : List ℕ) (now whole : List Noted) → HasNoFirst rest
    → now ++ noted_from m journal entry rest ≡ whole → now ≡ whole
noted_all m journal entry rest now whole none inv =
    sym (append-nil now) ∙ (ap (λ fs. now ++ map (noted_as m journal entry) fs) (sym (none_cut rest none)) ∙ inv)

-- WHAT BYTES BEGIN WITH

pub is_first : (bytes frame : List ℕ) (f : RawFrame) → split_of bytes ≡ Whole f → SpellsRaw f (take (span f.body) bytes)
    → frame ≡ take (span f.body) bytes → IsFirst bytes frame
is_first bytes frame f is spells cut =
    let within : span f.body ≤ length bytes = frame_there bytes f spells in
    record {
      raw = f;
      splits = is;
      is = cut;
      long = ap length cut ∙ length-take-le (span f.body) bytes within;
      within = omega (arith, within, ap length cut, length-take (span f.body) bytes);
    }

pub no_first : (s : Parted) (bytes : List ℕ) → parts s ≡ split_of bytes → ((raw : _) → s ≡ parted.Whole raw → ⊥) → HasNoFirst bytes
no_first (parted.Whole raw) bytes e none f is = none raw refl
no_first (parted.Need lack) bytes e none f is = absurd (let x : Need lack ≡ Whole f = e ∙ is in cc)
no_first (parted.Refused why) bytes e none f is = absurd (let x : Refused why ≡ Whole f = e ∙ is in cc)
