-- Values of which none is the same text as another.
use Rattle.std.proofs.Common.{◌≡◌, ◌||◌, Bool, true, false, List, [], ◌∷◌, map, refl, ap}
use Rattle.std.specs.List.{list_any}
use Rattle.toml.specs.View.{view}
use Rattle.toml.specs.declared.value.Value.{Value}
use Rattle.xl_settings.specs.Different.{are_different}
use Rattle.xl_settings.specs.Submits.{same_text}

among_texts : (values : List Value) (text : Value)
    → list_any (λ v. same_text (view text) (view v)) values ≡ list_any (same_text (view text)) (map view values)
among_texts [] text = refl
among_texts (value ∷ values) text = ap (λ (b : Bool). same_text (view text) (view value) || b)
    (among_texts values text)

pub repeated : (rest others : List Value) (first : Value) → rest ≡ first ∷ others
    → list_any (λ v. same_text (view first) (view v)) others ≡ true
    → are_different same_text (map view rest) ≡ false
repeated rest others first is again = rw (is, ← among_texts others first, again) refl

pub single : (rest others : List Value) (first : Value) → rest ≡ first ∷ others
    → list_any (λ v. same_text (view first) (view v)) others ≡ false
    → are_different same_text (map view rest) ≡ are_different same_text (map view others)
single rest others first is new = rw (is, ← among_texts others first, new) refl
