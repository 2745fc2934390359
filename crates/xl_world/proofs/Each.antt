-- What holds of the elements so far.
use Rattle.std.proofs.Common.{◌≡◌, ℕ, ◌+◌, ◌<◌, List, [], ◌∷◌, length, get_or, take, ap, sym, subst, ◌∙◌}
use Rattle.std.specs.Prelude.{All, map, ◌++◌}
use Rattle.std.proofs.lemmas.List.{take_more, map-append}
use Rattle.std.proofs.lemmas.List.Elements.{All-append, All-nil, All-cons}

-- one element more
pub all_more : {X : Type 0} (P : X → Type 0) (xs : List X) (i : ℕ) (x : X) → i < length xs → x ≡ get_or xs i x → All P (take i xs) → P x → All P (take (i + 1) xs)
all_more P xs i x i_in is so_far here =
    let e : take (i + 1) xs ≡ take i xs ++ x ∷ [] = take_more xs i x i_in ∙ ap (λ y. take i xs ++ y ∷ []) (sym is) in
    subst (All P) (sym e) (All-append P (take i xs) (x ∷ []) so_far (All-cons P x [] here (All-nil P)))

pub map_more : {X Y : Type 0} (f : X → Y) (xs : List X) (i : ℕ) (x : X) (ys : List Y) (y : Y) → i < length xs → x ≡ get_or xs i x → ys ≡ map f (take i xs) → y ≡ f x → ys ++ y ∷ [] ≡ map f (take (i + 1) xs)
map_more f xs i x ys y i_in is so_far made =
    let e : take (i + 1) xs ≡ take i xs ++ x ∷ [] = take_more xs i x i_in ∙ ap (λ z. take i xs ++ z ∷ []) (sym is) in
    ap (λ zs. zs ++ y ∷ []) so_far ∙ (ap (λ z. map f (take i xs) ++ z ∷ []) made ∙ (sym (map-append f (take i xs) (x ∷ [])) ∙ ap (map f) (sym e)))
