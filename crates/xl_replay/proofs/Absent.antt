-- A number at whose node no list was in force makes no pair.
use Rattle.std.proofs.Common.{◌≡◌, ℕ, Bool, true, false, cond, List, [], ◌∷◌, refl, ap, Option, Some, None}
use Rattle.std.specs.Prelude.{◌==◌, ◌&&◌, ◌||◌, find, is_some}
use Rattle.std.specs.List.{list_any}
use Rattle.xl_lists.specs.Lists.{TrustedList}
use Rattle.xl_world.specs.World.{World}
use Rattle.xl_world.specs.declared.plan.InForce.{InForce}
use Rattle.xl_replay.specs.Texts.{is_short, short_from, short_pair, short_with}

first_off : (x y : Bool) → (x || y) ≡ false → x ≡ false
first_off true y off = absurd cc
first_off false y off = refl

later_off : (x y : Bool) → (x || y) ≡ false → y ≡ false
later_off true y off = absurd cc
later_off false y off = off

both_off : (x y : Bool) → x ≡ false → (x && y) ≡ false
both_off x y off = ap (λ (b : Bool). b && y) off

last_off : (x : Bool) (o : Option InForce) → o ≡ None → (x && is_some o) ≡ false
last_off true o none = ap is_some none
last_off false o none = refl

passed_over : {X : Type 0} (b : Bool) (o p : Option X) → b ≡ false → p ≡ None → cond b o p ≡ None
passed_over true o p off none = absurd cc
passed_over false o p off none = none

none_with : (liars : List ℕ) (lists : List InForce) (a : TrustedList) (j : ℕ) → list_any (λ f. f.node == j) lists ≡ false → short_with liars lists a j ≡ None
none_with liars [] a j off = refl
none_with liars (f ∷ lists) a j off =
    passed_over (f.node == j && is_short liars a f.list) (Some f) (short_with liars lists a j)
    (both_off (f.node == j) (is_short liars a f.list) (first_off (f.node == j) (list_any (λ g. g.node == j) lists) off))
    (none_with liars lists a j (later_off (f.node == j) (list_any (λ g. g.node == j) lists) off))

none_at : (liars : List ℕ) (all lists : List InForce) (i j : ℕ) → list_any (λ f. f.node == j) all ≡ false →
    find (λ e. e.node == i && is_some (short_with liars all e.list j)) lists ≡ None
none_at liars all [] i j off = refl
none_at liars all (e ∷ lists) i j off =
    passed_over (e.node == i && is_some (short_with liars all e.list j)) (Some e) (find (λ x. x.node == i && is_some (short_with liars all x.list j)) lists)
    (last_off (e.node == i) (short_with liars all e.list j) (none_with liars all e.list j off))
    (none_at liars all lists i j off)

pub no_pair : (w : World) (i j : ℕ) → list_any (λ f. f.node == j) w.lists ≡ false → short_pair w i j ≡ []
no_pair w i j off = ap (short_from w.liars w.lists i j) (none_at w.liars w.lists w.lists i j off)
