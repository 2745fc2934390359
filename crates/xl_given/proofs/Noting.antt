-- A frame stays as it is, however many bytes come behind it.
use Rattle.std.proofs.Common.{◌≡◌, ℕ, ◌+◌, ◌-◌, List, [], ◌∷◌, ◌++◌, length, map, take, drop, refl, arith, ap, ◌∙◌}
use Rattle.std.specs.Prelude.{All}
use Rattle.std.proofs.lemmas.List.{drop-append-le, drop_at, length-drop, map-append, take-append-le, take_all}
use Rattle.std.proofs.lemmas.List.Elements.{All-head, All-tail}
use Rattle.xl_given.specs.Given.{Noted}
use Rattle.xl_given.specs.Kept.{IsWithin, noted_in}
use Rattle.xl_given.specs.declared.noted_frames.Place.{Place}

abbrev with_frame : Place → List ℕ → Noted
with_frame p frame = record { member = p.member; journal = p.journal; entry = p.entry; frame = frame }

still : (bytes more : List ℕ) (p : Place) → IsWithin (length bytes) p → noted_in (bytes ++ more) p ≡ noted_in bytes p
still bytes more p within =
    ap (λ xs. with_frame p (take (p.ends - p.begins) xs)) (drop-append-le p.begins bytes more (omega (arith, within.0, within.1)))
    ∙ ap (with_frame p) (take-append-le (p.ends - p.begins) (drop p.begins bytes) more (omega (arith, within.0, within.1, length-drop p.begins bytes)))

all_still : (bytes more : List ℕ) (ps : List Place) → All (IsWithin (length bytes)) ps
    → map (noted_in (bytes ++ more)) ps ≡ map (noted_in bytes) ps
all_still bytes more [] all = refl
all_still bytes more (p ∷ ps) all =
    ap (λ x. x ∷ map (noted_in (bytes ++ more)) ps) (still bytes more p (All-head (IsWithin (length bytes)) p ps all))
    ∙ ap (λ xs. noted_in bytes p ∷ xs) (all_still bytes more ps (All-tail (IsWithin (length bytes)) p ps all))

-- one more stands behind all
pub one_more : (bytes frame : List ℕ) (ps : List Place) (p : Place) → All (IsWithin (length bytes)) ps
    → p.begins ≡ length bytes → p.ends ≡ p.begins + length frame
    → map (noted_in (bytes ++ frame)) (ps ++ p ∷ []) ≡ map (noted_in bytes) ps ++ with_frame p frame ∷ []
one_more bytes frame ps p all begins ends =
    map-append (noted_in (bytes ++ frame)) ps (p ∷ [])
    ∙ (ap (λ xs. xs ++ noted_in (bytes ++ frame) p ∷ []) (all_still bytes frame ps all)
    ∙ ap (λ xs. map (noted_in bytes) ps ++ with_frame p xs ∷ []) here)
  where
    here : take (p.ends - p.begins) (drop p.begins (bytes ++ frame)) ≡ frame
    here = ap (λ n. take (p.ends - p.begins) (drop n (bytes ++ frame))) begins
        ∙ (ap (take (p.ends - p.begins)) (drop_at bytes frame (length bytes) refl)
        ∙ take_all (p.ends - p.begins) frame (omega (arith, ends)))
