-- What a room holds once the oldest items were handed out into it.
use Rattle.std.proofs.Common.{◌≡◌, ℕ, ◌+◌, ◌<◌, List, ◌∷◌, [], ◌++◌, length, get_or, set, take, drop, arith, refl, ap, sym, ◌∙◌, inl, inr}
use Rattle.std.specs.Prelude.{min}
use Rattle.std.proofs.lemmas.Bool.{cases_lt}
use Rattle.std.proofs.lemmas.List.{take_more, take_more_set, take-append-drop, take_all, drop_all, length-set, drop-set-lt, drop-drop, get_or-drop}

module _ {X : Type 0} where
  -- so many items were taken from the old ones, and stand in the room
  pub record IsGiven (items left old new : List X) (i : ℕ) : Type 0 where
    pub held : left ≡ drop i items
    pub given : take i new ≡ take i items
    pub rest : drop i new ≡ drop i old
    pub long : length new ≡ length old

  pub given_none : (items old : List X) → IsGiven items items old old 0
  given_none items old = record { held = refl; given = refl; rest = refl; long = refl }

  pub given_more : (items left left' old mid new : List X) (i : ℕ) (x : X) → i < length items → i < length mid → IsGiven items left old mid i → get_or left 0 x ≡ x → new ≡ set mid i x → left' ≡ drop 1 left →
      IsGiven items left' old new (i + 1)
  given_more items left left' old mid new i x i_in i_room was first is is_left =
      let same : get_or items i x ≡ x = sym (ap (λ (xs : List X). get_or xs 0 x) was.held ∙ get_or-drop i items 0 x ∙ ap (λ (n : ℕ). get_or items n x) (omega arith)) ∙ first in
      record {
        held = is_left ∙ ap (drop 1) was.held ∙ drop-drop 1 i items;
        given = ap (take (i + 1)) is ∙ take_more_set mid i x i_room ∙ ap (λ (xs : List X). xs ++ x ∷ []) was.given ∙ ap (λ (y : X). take i items ++ y ∷ []) (sym same) ∙ sym (take_more items i x i_in);
        rest = ap (drop (i + 1)) is ∙ drop-set-lt (i + 1) mid i x (omega arith) ∙ sym (drop-drop 1 i mid) ∙ ap (drop 1) was.rest ∙ drop-drop 1 i old;
        long = ap length is ∙ length-set mid i x ∙ was.long;
      }

  pub given_room : (items left old new : List X) (i : ℕ) → IsGiven items left old new i → new ≡ take i items ++ drop i old
  given_room items left old new i done = sym (take-append-drop i new) ∙ ap (λ (xs : List X). xs ++ drop i new) done.given ∙ ap (λ (xs : List X). take i items ++ xs) done.rest

  -- as many as there are, and as the room holds
  pub take_most : (xs : List X) (n room : ℕ) → n ≡ min (length xs) room → take n xs ≡ take room xs
  take_most xs n room is = elim (cases_lt (length xs) room) [
    | inl less ↦ take_all n xs (omega (arith, is, less)) ∙ sym (take_all room xs (omega (arith, less)))
    | inr more ↦ ap (λ (k : ℕ). take k xs) (omega (arith, is, more))
  ]

  pub drop_most : (xs : List X) (n room : ℕ) → n ≡ min (length xs) room → drop n xs ≡ drop room xs
  drop_most xs n room is = elim (cases_lt (length xs) room) [
    | inl less ↦ drop_all n xs (omega (arith, is, less)) ∙ sym (drop_all room xs (omega (arith, less)))
    | inr more ↦ ap (λ (k : ℕ). drop k xs) (omega (arith, is, more))
  ]
