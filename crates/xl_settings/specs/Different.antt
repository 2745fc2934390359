-- Lists in which nothing stands twice. Source: this project's own.
use Rattle.std.specs.Prelude.{Bool, true, ◌&&◌, not, List, [], ◌∷◌}
use Rattle.std.specs.List.{list_any}

-- no two items are the same
abbrev pub are_different : {A : Type 0} → (A → A → Bool) → List A → Bool
are_different same [] = true
are_different same (x ∷ xs) = not (list_any (same x) xs) && are_different same xs
