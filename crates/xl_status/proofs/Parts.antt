-- A text that is made part by part.
use Rattle.std.proofs.Common.{◌≡◌, ◌++◌, ℕ, List, Result, Ok, Err, ap, ◌∙◌, append_assoc}
use Rattle.std.specs.Prelude.{OnOk}

pub on_ok : {T E : Type 0} (r : Result T E) (P Q : Type 0) → OnOk r P → (P → Q) → OnOk r Q
on_ok (Ok x) P Q is go = go is
on_ok (Err e) P Q is go = tt

-- a part is put behind those that are there
pub behind : (old before after parts part : List ℕ) → before ≡ old ++ parts → after ≡ before ++ part
    → after ≡ old ++ (parts ++ part)
behind old before after parts part was is = is ∙ ap (λ (t : List ℕ). t ++ part) was ∙ append_assoc old parts part
