-- What a load leaves that wrote its number beside.
use Rattle.std.proofs.Common.{◌≡◌, ℕ, true, Option, Some, None, refl, ap, ◌∙◌}
use Rattle.xl_keep.specs.Files.{Places, Told, Writes}
use Rattle.xl_keep.specs.Saves.{SaysSo, Loaded}
use Rattle.xl_keep.specs.Texts.{text_of}

-- the number was read, and its text was written beside
pub loaded_beside : (n : ℕ) (old mid new : Option Places) → Told (SaysSo n) old mid
    → Told (Writes (text_of n) true) mid new → Told (Loaded n) old new
loaded_beside n None None new said wrote = wrote
loaded_beside n None (Some mid) new said wrote = let none : Some mid ≡ None = said in cc
loaded_beside n (Some old) None new said wrote = absurd said
loaded_beside n (Some old) (Some mid) None said wrote = absurd wrote
loaded_beside n (Some old) (Some mid) (Some new) said wrote =
    (wrote.0 ∙ ap (λ (places : Places). places.stands) said.0, wrote.1 refl, said.1)
