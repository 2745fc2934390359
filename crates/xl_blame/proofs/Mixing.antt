-- The pairs of journals so far, and those that are to come.
use Rattle.std.proofs.Common.{◌≡◌, ◌<◌, ◌+◌, ◌++◌, ◌∙◌, ℕ, Bool, List, ◌∷◌, length, drop, get_or, ap, sym, append_assoc}
use Rattle.std.proofs.lemmas.List.{drop_more}
use Rattle.xl_tags.specs.Rings.{Ring}
use Rattle.xl_shown.specs.declared.course.End.{End}
use Rattle.xl_blame.specs.Networks.{differ, mixed_if, mixed_in, mixed_with}
use Rattle.xl_blame.specs.declared.networks.Mixed.{Mixed}

pub here : (es : List End) (i : ℕ) (e : End) → i < length es → e ≡ get_or es i e → drop i es ≡ e ∷ drop (i + 1) es
here es i e lt is = drop_more es i e lt ∙ ap (λ x. x ∷ drop (i + 1) es) (sym is)

-- one more journal was compared
pub one_more : (k : ℕ) (ring : Ring) (j : ℕ) (e : End) (es : List End) (d : Bool) (old now whole : List Mixed)
    → now ≡ old ++ mixed_if d k j → d ≡ differ ring e.keys → old ++ mixed_with k ring j (e ∷ es) ≡ whole
    → now ++ mixed_with k ring (j + 1) es ≡ whole
one_more k ring j e es d old now whole is found inv =
    ap (λ xs. xs ++ mixed_with k ring (j + 1) es) (is ∙ ap (λ b. old ++ mixed_if b k j) found)
    ∙ (append_assoc old (mixed_if (differ ring e.keys) k j) (mixed_with k ring (j + 1) es) ∙ inv)

-- one more was compared with all behind it
pub one_row : (k : ℕ) (ring : Ring) (e : End) (es : List End) (old now whole : List Mixed)
    → now ≡ old ++ mixed_with k ring (k + 1) es → ring ≡ e.keys → old ++ mixed_in k (e ∷ es) ≡ whole
    → now ++ mixed_in (k + 1) es ≡ whole
one_row k ring e es old now whole is keys inv =
    ap (λ xs. xs ++ mixed_in (k + 1) es) (is ∙ ap (λ r. old ++ mixed_with k r (k + 1) es) keys)
    ∙ (append_assoc old (mixed_with k e.keys (k + 1) es) (mixed_in (k + 1) es) ∙ inv)
