-- All values as they are read, one after the other.
use Rattle.std.proofs.Common.{◌≡◌, ◌∙◌, ◌<◌, ◌≤◌, ◌+◌, ℕ, List, [], ◌∷◌, ◌++◌, map, drop, get_or, length, option_map, option_and_then, Option, Some, None, refl, ap, sym, append_assoc, append-nil}
use Rattle.std.proofs.lemmas.List.{drop_all, drop_more}
use Rattle.toml.specs.Data.{Data, Items}
use Rattle.toml.specs.View.{items_view, view}
use Rattle.toml.specs.declared.value.Value.{Value}
use Rattle.xl_settings.specs.Values.{all_read, values_in}

-- what was read, and then the rest
abbrev pub after : {A : Type 0} → List A → Option (List A) → Option (List A)
after done rest = option_map (λ xs. done ++ xs) rest

after_push : {A : Type 0} (done : List A) (x : A) (rest : Option (List A))
    → after done (option_map (λ xs. x ∷ xs) rest) ≡ after (done ++ x ∷ []) rest
after_push done x None = refl
after_push done x (Some xs) = ap Some (sym (append_assoc done (x ∷ []) xs))

-- at first nothing was read
pub after_none : {A : Type 0} (rest : Option (List A)) → rest ≡ after [] rest
after_none None = refl
after_none (Some xs) = refl

one_more : {A : Type 0} (read : Data → Option A) (vs : List Value) (i : ℕ) (d : Value) → i < length vs
    → all_read read (map view (drop i vs)) ≡ option_and_then (λ x. option_map (λ xs. x ∷ xs) (all_read read
    (map view (drop (i + 1) vs)))) (read (view (get_or vs i d)))
one_more read vs i d lt = rw (drop_more vs i d lt) refl

pub unread : {A : Type 0} (read : Data → Option A) (done : List A) (vs : List Value) (i : ℕ) (d : Value)
    → i < length vs → read (view (get_or vs i d)) ≡ None
    → after done (all_read read (map view (drop i vs))) ≡ None
unread read done vs i d lt none = ap (after done) (one_more read vs i d lt) ∙ rw none refl

pub read_on : {A : Type 0} (read : Data → Option A) (done : List A) (vs : List Value) (i : ℕ) (d : Value) (x : A)
    → i < length vs → read (view (get_or vs i d)) ≡ Some x
    → after done (all_read read (map view (drop i vs))) ≡ after (done ++ x ∷ []) (all_read read (map view (drop
    (i + 1) vs)))
read_on read done vs i d x lt some =
    ap (after done) (one_more read vs i d lt)
    ∙ rw some (after_push done x (all_read read (map view (drop (i + 1) vs))))

pub all_done : {A : Type 0} (read : Data → Option A) (done : List A) (vs : List Value) (i : ℕ) → length vs ≤ i
    → after done (all_read read (map view (drop i vs))) ≡ Some done
all_done read done vs i over = rw (drop_all i vs over) (ap Some (append-nil done))

values-view : (vs : List Value) → values_in (items_view vs) ≡ map view vs
values-view [] = refl
values-view (v ∷ vs) = ap (λ (ds : List Data). view v ∷ ds) (values-view vs)

-- an array that was found has these values
pub array_found : (vs : List Value) (found : Option Items) → Some (items_view vs) ≡ found
    → option_map values_in found ≡ Some (map view vs)
array_found vs found is = rw (← is) (ap Some (values-view vs))
