-- Whom kept rolls name after a text: whom they named before, and whom a roll of it may name.
use Rattle.std.proofs.Common.{◌≡◌, ◌∙◌, ◌⊎◌, ℕ, zero, suc, Bool, true, false, cond, not, List, [], ◌∷◌, length, Option, Some, None, refl, sym, ap, inl, inr, ⊎_elim}
use Rattle.std.specs.Prelude.{◌==◌, ◌||◌, ◌-◌, find, fold, is_none, option_map, slice_set}
use Rattle.std.specs.List.{list_any}
use Rattle.std.specs.Option.{option_or}
use Rattle.std.proofs.lemmas.Bool.{cases_Bool, cond-true, cond-false, eqb-true}
use Rattle.xl_base.specs.Refusals.{first_of}
use Rattle.xl_lists.specs.Lists.{is_on}
use Rattle.xl_publish.specs.declared.line_refusal.LineRefusal.TheVariants.{Stranger, Roll}
use Rattle.xl_publish.specs.declared.publishers.Took.{Took}
use Rattle.xl_publish.specs.declared.publishers.Took.TheVariants.{New, Kept}
use Rattle.xl_publish.specs.declared.refusal.RollRefusal.{RollRefusal}
use Rattle.xl_publish.specs.Fields.{members_in, publisher_in}
use Rattle.xl_publish.specs.Forces.{is_named, names_in}
use Rattle.xl_publish.specs.Refusing.{refusal_of}
use Rattle.xl_publish.specs.Registers.{Register, after_roll, after_took, kept_of, took_of}
use Rattle.xl_publish.specs.Texts.{after_bytes, after_line, after_text, digits_in, lines_of, roll_refusal, stranger_in}

either : (a b : Bool) → (a || b) ≡ true → (a ≡ true) ⊎ (b ≡ true)
either true b e = inl refl
either false b e = inr e

-- ---- whom a roll names that has no stranger

module _ (members : List ℕ) (m : ℕ) where
  known_by : (ms : List ℕ) → find (λ k. not (is_on members k)) ms ≡ None → is_on ms m ≡ true → is_on members m ≡ true
  known_by [] none on = absurd cc
  known_by (k ∷ ms) none on = elim (cases_Bool (is_on members k)) [
    | inr off ↦ absurd (some
        (sym (cond-true (not (is_on members k)) (Some k) (find (λ j. not (is_on members j)) ms) (ap not off)) ∙ none))
    | inl here ↦ ⊎_elim
        (λ (same : (m == k) ≡ true). ap (is_on members) (eqb-true m k same) ∙ here)
        (λ (later : is_on ms m ≡ true). known_by ms
        (sym (cond-false (not (is_on members k)) (Some k) (find (λ j. not (is_on members j)) ms) (ap not here)) ∙ none)
        later)
        (either (m == k) (is_on ms m) on)
  ]
    where
      some : {A : Type 0} {x : A} → Some x ≡ None → ⊥
      some e = cc

  no_stranger : (refusal : Option RollRefusal) (stranger : Option ℕ)
      → is_none (first_of (option_map Roll refusal ∷ option_map Stranger stranger ∷ [])) ≡ true → stranger ≡ None
  no_stranger (Some cause) stranger e = absurd cc
  no_stranger None (Some k) e = absurd cc
  no_stranger None None e = refl

  -- ---- whom kept rolls name

  any_set : (kept : List (Option (List ℕ))) (i : ℕ) (roll : List ℕ)
      → list_any (names_in m) (slice_set kept i (Some roll)) ≡ true
      → (is_named kept m ≡ true) ⊎ (is_on (members_in roll) m ≡ true)
  any_set [] i roll e = absurd cc
  any_set (k ∷ kept) zero roll e = ⊎_elim
      (λ (here : is_on (members_in roll) m ≡ true). inr here)
      (λ (later : is_named kept m ≡ true). inl (either_right (names_in m k) (is_named kept m) later))
      (either (is_on (members_in roll) m) (is_named kept m) e)
    where
      either_right : (a b : Bool) → b ≡ true → (a || b) ≡ true
      either_right true b e = refl
      either_right false b e = e
  any_set (k ∷ kept) (suc i) roll e = ⊎_elim
      (λ (here : names_in m k ≡ true). inl (either_left (names_in m k) (is_named kept m) here))
      (λ (later : list_any (names_in m) (slice_set kept i (Some roll)) ≡ true). ⊎_elim
      (λ (was : is_named kept m ≡ true). inl (either_right (names_in m k) (is_named kept m) was))
      (λ (on : is_on (members_in roll) m ≡ true). inr on)
      (any_set kept i roll later))
      (either (names_in m k) (list_any (names_in m) (slice_set kept i (Some roll))) e)
    where
      either_left : (a b : Bool) → a ≡ true → (a || b) ≡ true
      either_left true b e = refl
      either_left false b e = cc

      either_right : (a b : Bool) → b ≡ true → (a || b) ≡ true
      either_right true b e = refl
      either_right false b e = e

  abbrev Goes : Register → Register → Type 0
  Goes old new = is_named new.kept m ≡ true → (is_named old.kept m ≡ true) ⊎ (is_on members m ≡ true)

  took_names : (r : Register) (took : Took) (roll : List ℕ) → stranger_in members roll ≡ None
      → Goes r (after_took r took roll)
  took_names r (Kept seq) roll none named = inl named
  took_names r New roll none named = ⊎_elim
      (λ (was : is_named r.kept m ≡ true). inl was)
      (λ (on : is_on (members_in roll) m ≡ true). inr (known_by (members_in roll) none on))
      (any_set r.kept (publisher_in roll - 1) roll named)

  roll_names : (r : Register) (roll : List ℕ) → stranger_in members roll ≡ None → Goes r (after_roll r roll)
  roll_names r roll none = elim (cases_Bool (is_none (refusal_of r.keys roll))) [
    | inl taken ↦ rw taken (took_names r (took_of (kept_of r (publisher_in roll)) roll) roll none)
    | inr refused ↦ rw refused (λ named. inl named)
  ]

  bytes_names : (r : Register) (bytes : Option (List ℕ)) → Goes r (after_bytes members r bytes)
  bytes_names r None = λ named. inl named
  bytes_names r (Some roll) = elim (cases_Bool (is_none (roll_refusal members r.keys roll))) [
    | inl taken ↦ rw taken (roll_names r roll (no_stranger (refusal_of r.keys roll) (stranger_in members roll) taken))
    | inr refused ↦ rw refused (λ named. inl named)
  ]

  line_names : (r : Register) (line : List ℕ) → Goes r (after_line members r line)
  line_names r line = elim (cases_Bool (length line == 0)) [
    | inl empty ↦ rw empty (λ named. inl named)
    | inr some ↦ rw some (bytes_names r (digits_in line))
  ]

  lines_names : (r : Register) (lines : List (List ℕ)) → Goes r (fold (after_line members) r lines)
  lines_names r [] named = inl named
  lines_names r (line ∷ lines) named = ⊎_elim
      (λ (was : is_named (after_line members r line).kept m ≡ true). line_names r line was)
      (λ (on : is_on members m ≡ true). inr on)
      (lines_names (after_line members r line) lines named)

  pub text_names : (r : Register) (text : List ℕ) → is_named (after_text members r text).kept m ≡ true
      → (is_named r.kept m ≡ true) ⊎ (is_on members m ≡ true)
  text_names r text named = lines_names r (lines_of text) named
