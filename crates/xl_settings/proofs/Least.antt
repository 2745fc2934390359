-- The first unknown key of keys that ascend is the least.
use Rattle.std.proofs.Common.{◌≡◌, ◌∙◌, ℕ, Bool, true, false, List, [], ◌∷◌, Option, Some, None, String, Global, Less, Greater, string_bytes, nat_cmp, refl, ap, ap₂, cond, subst}
use Rattle.std.proofs.lemmas.Bool.{cond_both}
use Rattle.std.specs.Ordering.{is_lt, ordering_reverse}
use Rattle.std.specs.Cmp.Lexicographic.{slice_cmp}
use Rattle.std.specs.List.{AllByRecursion}
use Rattle.std.specs.List.Sorted.{IsStrictlySortedBy}
use Rattle.std.specs.Map.{keys_of}
use Rattle.std.specs.String.{string_cmp}
use Rattle.std.proofs.lemmas.Cmp.{nat_list_cmp_total}
use Rattle.std.proofs.lemmas.Option.{same_Some}
use Rattle.xl_settings.specs.Keys.{is_known, least_unknown, lesser}
use Rattle.xl_settings.specs.First.{first_unknown}
use Rattle.toml.specs.View.{members_view}
use Rattle.toml.proofs.Views.{Entry}

-- a fact of a key and of what may be less holds of the lesser
lesser_has : (P : List ℕ → Type 0) (key : List ℕ) (o : Option (List ℕ)) → P key → ((i : List ℕ) → o ≡ Some i → P i)
    → P (lesser key o)
lesser_has P key None here there = here
lesser_has P key (Some i) here there =
    cond_both (is_lt (slice_cmp nat_cmp i key)) i key P (λ yes. there i refl) (λ no. here)

after_one : (P : List ℕ → Type 0) (key : List ℕ) (rest : Option (List ℕ)) (known : Bool) (j : List ℕ) → P key
    → ((i : List ℕ) → rest ≡ Some i → P i)
    → cond known rest (Some (lesser key rest)) ≡ Some j → P j
after_one P key rest true j here there e = there j e
after_one P key rest false j here there e = subst P (same_Some _ _ e) (lesser_has P key rest here there)

after : (k : String Global) (es : List Entry) → AllByRecursion (λ y. string_cmp k y ≡ Less) (keys_of es)
    → (j : List ℕ) → least_unknown (members_view es) ≡ Some j → slice_cmp nat_cmp (string_bytes k) j ≡ Less
after k [] h j e = cc
after k (x ∷ es) h j e = after_one (λ (t : List ℕ). slice_cmp nat_cmp (string_bytes k) t ≡ Less) (string_bytes x.0)
    (least_unknown (members_view es)) (is_known (string_bytes x.0)) j h.0 (after k es h.1) e

lesser_first : (key : List ℕ) (o : Option (List ℕ)) → ((i : List ℕ) → o ≡ Some i → slice_cmp nat_cmp key i ≡ Less)
    → key ≡ lesser key o
lesser_first key None less = refl
lesser_first key (Some i) less =
    let greater : slice_cmp nat_cmp i key ≡ Greater = nat_list_cmp_total.antisymm i key
    ∙ ap ordering_reverse (less i refl) in
    rw greater refl

pub first_is_least : (es : List Entry) → IsStrictlySortedBy string_cmp (keys_of es)
    → first_unknown (members_view es) ≡ least_unknown (members_view es)
unfolding IsStrictlySortedBy
first_is_least [] h = refl
first_is_least (x ∷ es) h = ap₂ (λ (a b : Option (List ℕ)). cond (is_known (string_bytes x.0)) a b)
    (first_is_least es h.1)
    (ap Some (lesser_first (string_bytes x.0) (least_unknown (members_view es)) (after x.0 es h.0)))
