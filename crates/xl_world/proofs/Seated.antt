-- An event at a place leaves each number where it stands.
use Rattle.std.proofs.Common.{◌≡◌, ◌∙◌, ℕ, List, Some, None, ap, get_or, length, set}
use Rattle.std.specs.Prelude.{◌==◌, if◌then◌else◌, nat_lt, position}
use Rattle.std.specs.List.{position_or_len}
use Rattle.std.proofs.lemmas.List.{length-set}
use Rattle.std.proofs.lemmas.List.Folds.{position_or_len-set}
use Rattle.xl_core.specs.declared.event.CoreEvent.{CoreEvent}
use Rattle.xl_world.specs.declared.place.Fate.{Fate}
use Rattle.xl_world.specs.declared.place.Place.{Place}
use Rattle.xl_world.specs.Disk.{answer_of}
use Rattle.xl_world.specs.Seen.{place_after}
use Rattle.xl_world.specs.Stands.{IsSeat}
use Rattle.xl_world.specs.World.{World}
use Rattle.xl_world.proofs.Acted.{IsFound}
use Rattle.xl_world.proofs.Keeping.{core_keeps}

-- another one there of its number
still : (xs : List Place) (i k : ℕ) (d y : Place) → y.core.node.me ≡ (get_or xs k d).core.node.me → position (λ p. p.core.node.me == i) (set xs k y) ≡ position (λ p. p.core.node.me == i) xs
still xs i k d y same =
    let first : List Place → ℕ = position_or_len (λ (p : Place). p.core.node.me == i) in
    ap (λ (n : ℕ). if nat_lt n (length (set xs k y)) then Some n else None) (position_or_len-set (λ (p : Place). p.core.node.me == i) xs k y d (ap (λ (m : ℕ). m == i) same))
    ∙ ap (λ (n : ℕ). if nat_lt (first xs) n then Some (first xs) else None) (length-set xs k y)

pub found_seat : (w u : World) (i k : ℕ) (p : Place) (event : ℕ → CoreEvent) (fate : Fate) (q : Place) → IsFound w u i k p → q ≡ place_after p (event p.core.node.me) fate → IsSeat (set u.places k q) (record { number = i; place = k })
found_seat w u i k p event fate q found is =
    still u.places i k p q (ap (λ (x : Place). x.core.node.me) is ∙ ((core_keeps p.core (event p.core.node.me) (answer_of p.disk fate)).0 ∙ ap (λ (x : Place). x.core.node.me) found.there))
    ∙ found.first
