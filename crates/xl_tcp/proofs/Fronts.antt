-- A front of a list that stands at the front of a room.
use Rattle.std.proofs.Common.{◌≡◌, ℕ, ◌+◌, List, ◌++◌, length, take, drop, sym, ap, ◌∙◌}
use Rattle.std.proofs.lemmas.List.{take-append-drop, take_at, drop-drop}

-- what the front of the room holds, and what is left of the list, are the list
pub front_given : (items front room : List ℕ) (given n : ℕ) → front ≡ take n (drop given items) → length front ≡ n
    → drop given items ≡ take n (front ++ drop n room) ++ drop (given + n) items
front_given items front room given n is long =
    sym (take-append-drop n (drop given items))
    ∙ ap (λ (xs : List ℕ). xs ++ drop n (drop given items)) (sym is ∙ sym (take_at front (drop n room) n long))
    ∙ ap (λ (xs : List ℕ). take n (front ++ drop n room) ++ xs) (drop-drop n given items)
