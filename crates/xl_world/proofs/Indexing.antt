-- The index of sent frames, and what it finds.
use Rattle.std.proofs.Common.{◌≡◌, ℕ, ◌+◌, ◌<◌, true, false, cond, List, ◌++◌, length, get_or, refl, arith, ap, sym, ◌∙◌, inl, inr, Option, Some, None, subst, length-append}
use Rattle.std.specs.Prelude.{◌⊎◌, All, is_some, slice_get}
use Rattle.std.specs.Str.{bytes_eq}
use Rattle.std.proofs.lemmas.Bool.{cases_Bool, cond-true, cond-false}
use Rattle.std.proofs.lemmas.List.{get_or_append_left}
use Rattle.std.proofs.lemmas.List.Folds.{list_any_at}
use Rattle.std.proofs.lemmas.Option.{slice_get-get_or, slice_get_within, get_or_from_slice_get}
use Rattle.std.proofs.lemmas.Slice.Eq.{bytes_eq-Decides}
use Rattle.xl_world.specs.declared.index.TagIndex.{TagIndex}
use Rattle.xl_world.specs.Sending.{Sent}
use Rattle.xl_world.specs.Indexes.{tag_in, place_of_tag, is_bytes, is_at, LeadsTo, IsIndex}
use Rattle.xl_world.specs.Forgeries.{was_sent}
use Rattle.xl_world.proofs.Unforged.{from_found}

some_number : (a b : ℕ) → Some a ≡ Some b → b ≡ a
some_number a b e = cc

some_none : {X : Type 0} (x : X) → Some x ≡ None → ⊥
some_none x e = cc

never : true ≡ false → ⊥
never e = cc

-- bytes stand where they stood, however many more frames were sent
still_at : (sent more : List Sent) (place : ℕ) (bytes : List ℕ) → is_at sent place bytes ≡ true → is_at (sent ++ more) place bytes ≡ true
still_at sent more place bytes at = still (slice_get sent place) refl (at)
  where
    still : (o : Option Sent) → slice_get sent place ≡ o → is_bytes bytes o ≡ true → is_bytes bytes (slice_get (sent ++ more) place) ≡ true
    still None none is = absurd (never (sym is))
    still (Some f) here is =
        let below = slice_get_within sent place f here in
        ap (is_bytes bytes) (slice_get-get_or (sent ++ more) place f (omega (arith, below, length-append sent more))
        ∙ ap (λ (g : Sent). Some g) (get_or_append_left sent more f place below ∙ get_or_from_slice_get sent place f f here)) ∙ is

-- more frames leave it as it is
pub index_more : (index : TagIndex) (sent more : List Sent) → IsIndex index sent → IsIndex index (sent ++ more)
index_more index sent more is = record {
  few = omega (arith, is.few, length-append sent more);
  placed = λ kept k d below.
      subst (λ (f : Sent). LeadsTo index (sent ++ more) f.bytes) (sym (get_or_append_left sent more d k (omega (arith, below, is.few))))
      (let to = is.placed kept k d below in (to.0, to.1, still_at sent more to.0 (get_or sent k d).bytes to.2));
}

-- one that is given up need only be short enough
pub given_up : (old new : TagIndex) (sent : List Sent) → IsIndex old sent → new.indexed ≡ old.indexed → new.given_up ≡ true → IsIndex new sent
given_up old new sent is same up = record {
  few = omega (arith, is.few, same);
  placed = λ kept k d below. absurd (never (sym up ∙ kept));
}

each_leads : (index : TagIndex) (sent : List Sent) → IsIndex index sent → index.given_up ≡ false → index.indexed ≡ length sent → All (λ f. LeadsTo index sent f.bytes) sent
each_leads index sent is kept all k d below = is.placed kept k d (omega (arith, below, all))

-- bytes that were sent stand at the place of their tag
found : (index : TagIndex) (sent : List Sent) (bytes : List ℕ) → IsIndex index sent → index.given_up ≡ false → index.indexed ≡ length sent → was_sent sent bytes ≡ true → LeadsTo index sent bytes
found index sent bytes is kept all was =
    from_found (λ f. bytes_eq f.bytes bytes) (λ f. LeadsTo index sent f.bytes) _ sent was (each_leads index sent is kept all)
    (λ f same leads. subst (LeadsTo index sent) ((bytes_eq-Decides f.bytes bytes).0 same) leads)

unsent : (sent : List Sent) (bytes : List ℕ) → (was_sent sent bytes ≡ true → ⊥) → false ≡ was_sent sent bytes
unsent sent bytes not_so = elim (cases_Bool (was_sent sent bytes)) [ inl e ↦ absurd (not_so e) | inr e ↦ sym e ]

pub absent : (index : TagIndex) (sent : List Sent) (bytes : List ℕ) → IsIndex index sent → index.given_up ≡ false → index.indexed ≡ length sent →
    place_of_tag index (tag_in bytes) ≡ None → false ≡ was_sent sent bytes
absent index sent bytes is kept all none =
    unsent sent bytes (λ was. let at = found index sent bytes is kept all was in some_none at.0 (sym at.1 ∙ none))

pub placed_at : (index : TagIndex) (sent : List Sent) (bytes : List ℕ) (place : ℕ) → IsIndex index sent → index.given_up ≡ false → index.indexed ≡ length sent →
    place_of_tag index (tag_in bytes) ≡ Some place → is_at sent place bytes ≡ was_sent sent bytes
placed_at index sent bytes place is kept all at =
    elim (cases_Bool (is_at sent place bytes)) [
      | inl e ↦ e ∙ sym (sent_there (slice_get sent place) refl e)
      | inr e ↦ e ∙ unsent sent bytes (λ was.
          let there = found index sent bytes is kept all was in
          never (sym there.2 ∙ (ap (λ j. is_at sent j bytes) (some_number place there.0 (sym at ∙ there.1)) ∙ e)))
    ]
  where
    sent_there : (o : Option Sent) → slice_get sent place ≡ o → is_bytes bytes o ≡ true → was_sent sent bytes ≡ true
    sent_there None none is_it = absurd (never (sym is_it))
    sent_there (Some f) here is_it = list_any_at _ sent place f (slice_get_within sent place f here) (subst (λ (g : Sent). bytes_eq g.bytes bytes ≡ true) (sym (get_or_from_slice_get sent place f f here)) is_it)

same_frame : (f g : Sent) → Some f ≡ Some g → f ≡ g
same_frame f g e = cc

-- a frame of a list is the one of its place, whatever the default
its_own : (sent : List Sent) (k : ℕ) (f d : Sent) → k < length sent → f ≡ get_or sent k f → f ≡ get_or sent k d
its_own sent k f d below here = here ∙ same_frame _ _ (sym (slice_get-get_or sent k f below) ∙ slice_get-get_or sent k d below)

last_or_before : (k n : ℕ) → k < n + 1 → (k < n) ⊎ (k ≡ n)
last_or_before k n h = grind arith

-- the index with one frame more, whose tag leads to its bytes, as the tags of the others still do
pub index_next : (old new : TagIndex) (sent : List Sent) (f : Sent) → IsIndex old sent → old.given_up ≡ false → old.indexed < length sent → new.indexed ≡ old.indexed + 1 →
    f ≡ get_or sent old.indexed f → ((bytes : List ℕ) → LeadsTo old sent bytes → LeadsTo new sent bytes) → LeadsTo new sent f.bytes → IsIndex new sent
index_next old new sent f is kept more one_more here others its = record {
  few = omega (arith, more, one_more);
  placed = λ _ k d below. elim (last_or_before k old.indexed (omega (arith, below, one_more))) [
    | inl before ↦ others (get_or sent k d).bytes (is.placed kept k d before)
    | inr last ↦
        subst (λ (i : ℕ). LeadsTo new sent (get_or sent i d).bytes) (sym last)
        (subst (λ (g : Sent). LeadsTo new sent g.bytes) (its_own sent old.indexed f d more here) its)
  ];
}

-- a new tag changes no other one's place
pub others_lead : (old new : TagIndex) (sent : List Sent) (tag : List ℕ) (place : ℕ) → place_of_tag old tag ≡ None →
    ((t : List ℕ) → place_of_tag new t ≡ cond (bytes_eq t tag) (Some place) (place_of_tag old t)) → (bytes : List ℕ) → LeadsTo old sent bytes → LeadsTo new sent bytes
others_lead old new sent tag place none inserted bytes to =
    let t = tag_in bytes in (
      to.0,
      inserted t ∙ (elim (cases_Bool (bytes_eq t tag)) [
        | inl e ↦ absurd (some_none to.0 (sym to.1 ∙ (ap (place_of_tag old) ((bytes_eq-Decides t tag).0 e) ∙ none)))
        | inr e ↦ cond-false (bytes_eq t tag) (Some place) (place_of_tag old t) e
      ] ∙ to.1),
      to.2,
    )

-- and leads to its frame
pub new_leads : (old new : TagIndex) (sent : List Sent) (tag : List ℕ) (f : Sent) (place : ℕ) → place < length sent → f ≡ get_or sent place f → tag ≡ tag_in f.bytes →
    ((t : List ℕ) → place_of_tag new t ≡ cond (bytes_eq t tag) (Some place) (place_of_tag old t)) → LeadsTo new sent f.bytes
new_leads old new sent tag f place below here its inserted =
    let t = tag_in f.bytes in (
      place,
      inserted t ∙ cond-true (bytes_eq t tag) (Some place) (place_of_tag old t) ((bytes_eq-Decides t tag).1 (sym its)),
      ap (is_bytes f.bytes) (slice_get-get_or sent place f below ∙ ap (λ (g : Sent). Some g) (sym here)) ∙ (bytes_eq-Decides f.bytes f.bytes).1 refl,
    )

pub none_of : {X : Type 0} (o : Option X) → false ≡ is_some o → o ≡ None
none_of None e = refl
none_of (Some x) e = absurd (never (sym e))
