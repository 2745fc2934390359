-- Entries, one after another.
use Rattle.std.proofs.Common.{◌≡◌, ◌+◌, ◌≤◌, ◌<◌, ℕ, List, [], ◌∷◌, ◌++◌, length, map, take, get_or, ap, sym, ◌∙◌, append_assoc, append-nil}
use Rattle.std.specs.List.{flat_map, join_with_byte}
use Rattle.std.proofs.lemmas.List.{flat_map_more, take_more, take_all}

-- the first, and each other after a separator
joined-flat : {X : Type 0} (c : ℕ) (f : X → List ℕ) (x : X) (xs : List X) → join_with_byte c (map f (x ∷ xs)) ≡ f x ++ flat_map (λ y. c ∷ f y) xs
joined-flat c f x [] = sym (append-nil (f x))
joined-flat c f x (y ∷ ys) = ap (λ rest. f x ++ (c ∷ rest)) (joined-flat c f y ys)

-- all were added
pub entries-done : {X : Type 0} (f : X → List ℕ) (x : X) (xs : List X) (i : ℕ) (old first now : List ℕ) → first ≡ old ++ 32 ∷ f x → now ≡ first ++ flat_map (λ y. 44 ∷ f y) (take i xs) → length xs ≤ i →
    now ≡ old ++ 32 ∷ join_with_byte 44 (map f (x ∷ xs))
entries-done f x xs i old first now begun so_far all =
    so_far
    ∙ ap (λ ys. first ++ flat_map (λ y. 44 ∷ f y) ys) (take_all i xs all)
    ∙ ap (λ bs. bs ++ flat_map (λ y. 44 ∷ f y) xs) begun
    ∙ append_assoc old (32 ∷ f x) (flat_map (λ y. 44 ∷ f y) xs)
    ∙ ap (λ rest. old ++ 32 ∷ rest) (sym (joined-flat 44 f x xs))

-- one more was added
pub entries-more : {X : Type 0} (f : X → List ℕ) (xs : List X) (i : ℕ) (d : X) (first now next : List ℕ) → i < length xs → now ≡ first ++ flat_map (λ y. 44 ∷ f y) (take i xs) → next ≡ now ++ 44 ∷ f (get_or xs i d) →
    next ≡ first ++ flat_map (λ y. 44 ∷ f y) (take (i + 1) xs)
entries-more f xs i d first now next within so_far more =
    more
    ∙ ap (λ bs. bs ++ 44 ∷ f (get_or xs i d)) so_far
    ∙ flat_map_more (λ y. 44 ∷ f y) first (take i xs) (get_or xs i d)
    ∙ ap (λ ys. first ++ flat_map (λ y. 44 ∷ f y) ys) (sym (take_more xs i d within))
