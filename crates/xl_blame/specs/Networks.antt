-- Journals that are not of one network: two nodes share one key, and so do a node's lives and each member. Source: this
-- project's own.
use Rattle.std.specs.Prelude.{ℕ, ◌+◌, ◌==◌, not, Bool, false, List, [], ◌∷◌, ◌++◌, find, is_some, if◌then◌else◌}
use Rattle.std.specs.Prelude.{Some}
use Rattle.std.specs.declared.option.Option.{Option}
use Rattle.std.specs.List.{range_with_len}
use Rattle.std.specs.Str.{bytes_eq}
use Rattle.xl_tags.specs.Rings.{Ring, key_of}
use Rattle.xl_shown.specs.declared.course.End.{End}
use Rattle.xl_blame.specs.declared.networks.Mixed.{Mixed}

abbrev pub are_two : Option (List ℕ) → Option (List ℕ) → Bool
are_two (Some one) (Some other) = not (bytes_eq one other)
are_two one other = false

abbrev pub differ_at : Ring → Ring → ℕ → Bool
differ_at one other m = are_two (key_of one m) (key_of other m)

-- two lives of one node have two keys for a member, or two nodes two keys for their pair
abbrev pub differ : Ring → Ring → Bool
differ one other =
    if one.me == other.me then is_some (find (differ_at one other) (range_with_len 1 64))
    else are_two (key_of one other.me) (key_of other one.me)

-- two journals, if their keys differ
abbrev pub mixed_if : Bool → ℕ → ℕ → List Mixed
mixed_if differs k j = if differs then record { one = k; other = j } ∷ [] else []

-- one journal with those behind it, the first of which has the number j
abbrev pub mixed_with : ℕ → Ring → ℕ → List End → List Mixed
mixed_with k ring j [] = []
mixed_with k ring j (e ∷ es) =
    mixed_if (differ ring e.keys) k j ++ mixed_with k ring (j + 1) es

-- all pairs, by rising numbers; the first journal has the number k
abbrev pub mixed_in : ℕ → List End → List Mixed
mixed_in k [] = []
mixed_in k (e ∷ es) = mixed_with k e.keys (k + 1) es ++ mixed_in (k + 1) es
