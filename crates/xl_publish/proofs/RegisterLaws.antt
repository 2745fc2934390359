-- Places of publishers, and what a roll that is taken leaves there.
use Rattle.std.proofs.Common.{◌≡◌, ◌≢◌, ℕ, ◌+◌, ◌-◌, ◌<◌, ◌≤◌, ◌==◌, List, length, replicate, get_or, Option, Some, None, refl, sym, ap, ◌∙◌, inl, inr, arith}
use Rattle.std.specs.Prelude.{slice_set}
use Rattle.std.specs.Array.{AllOfLen}
use Rattle.std.proofs.Math.ListN.{length-set}
use Rattle.std.proofs.lemmas.Bool.{cases_eq, cases_lt, cond_both, cond-true, cond-false}
use Rattle.std.proofs.lemmas.Bool.Decides.{nat_tests}
use Rattle.std.proofs.lemmas.List.{ext_get_or, get_or-replicate, length-replicate, get_or_past, get_or-set_same, get_or-set_other}
use Rattle.xl_publish.specs.declared.publishers.Took.{Took}
use Rattle.xl_publish.specs.declared.publishers.Took.TheVariants.{New, Kept}
use Rattle.xl_publish.specs.Fields.{publisher_in, seq_in}
use Rattle.xl_publish.specs.Orders.{is_below, greater}
use Rattle.xl_publish.specs.Refusing.{of_publisher, IsPublisher}
use Rattle.xl_publish.specs.Registers.{Register, IsRegister, no_publishers, kept_of, is_new, with_key, after_key, with_roll, took_of, after_took}

abbrev pub Places : Type 0
Places = List (Option (List ℕ))

abbrev pub register_of : Places → Places → Register
register_of keys kept = record { keys = keys; kept = kept }

-- what stands at a publisher's place
pub at_place : (places : Places) (publisher : ℕ) → 1 ≤ publisher → of_publisher places publisher ≡ get_or places (publisher - 1) None
at_place places publisher low =
    cond_both (publisher == 0) None (get_or places (publisher - 1) None) (λ (k : Option (List ℕ)). k ≡ get_or places (publisher - 1) None) (λ yes. absurd (grind (arith, nat_tests))) (λ _. refl)

-- only a publisher has something
pub has_place : (places : Places) (publisher : ℕ) (there : List ℕ) → length places ≡ 16 → of_publisher places publisher ≡ Some there → IsPublisher publisher
has_place places publisher there long is =
    elim (cases_eq publisher 0) [
      | inl at_zero ↦ absurd (let none : None ≡ Some there = ap (of_publisher places) (sym at_zero) ∙ is in cc)
      | inr some ↦ elim (cases_lt 16 publisher) [
        | inl far ↦ absurd (let none : None ≡ Some there = sym (at_place places publisher (omega arith) ∙ get_or_past places (publisher - 1) None (omega arith)) ∙ is in cc)
        | inr near ↦ (omega arith, near)
      ]
    ]

-- what is put at a publisher's place
pub put_same : (places : Places) (publisher : ℕ) (x : Option (List ℕ)) → length places ≡ 16 → IsPublisher publisher →
    of_publisher (slice_set places (publisher - 1) x) publisher ≡ x
put_same places publisher x long known =
    at_place (slice_set places (publisher - 1) x) publisher known.0 ∙ get_or-set_same places (publisher - 1) x None (omega (arith, known.0, known.1))

pub put_other : (places : Places) (publisher other : ℕ) (x : Option (List ℕ)) → 1 ≤ publisher → other ≢ publisher →
    of_publisher (slice_set places (publisher - 1) x) other ≡ of_publisher places other
put_other places publisher other x low another =
    elim (cases_eq other 0) [
      | inl at_zero ↦ ap (of_publisher (slice_set places (publisher - 1) x)) at_zero ∙ sym (ap (of_publisher places) at_zero)
      | inr some ↦ at_place (slice_set places (publisher - 1) x) other (omega arith)
          ∙ get_or-set_other places (publisher - 1) (other - 1) x None (omega arith)
          ∙ sym (at_place places other (omega arith))
    ]

-- where no place has anything
none_of : (P : Option (List ℕ) → Type 0) → ((there : List ℕ) → P (Some there) → ⊥) → (o : Option (List ℕ)) → P o → o ≡ None
none_of P never None h = refl
none_of P never (Some there) h = absurd (never there h)

pub all_none : (P : Option (List ℕ) → Type 0) → ((there : List ℕ) → P (Some there) → ⊥) → (places : Places) → AllOfLen P places 16 → places ≡ replicate 16 None
all_none P never places each =
    ext_get_or None places (replicate 16 None) (each.long ∙ sym (length-replicate {A = Option (List ℕ)} 16 None))
    (λ i h. none_of P never _ (each.at i None (omega (arith, each.long))) ∙ sym (get_or-replicate {A = Option (List ℕ)} 16 i None None (omega (arith, each.long))))

pub none_yet : (publisher : ℕ) → kept_of no_publishers publisher ≡ None
unfolding no_publishers
none_yet publisher =
    cond_both (publisher == 0) None (get_or (replicate 16 None) (publisher - 1) None) (λ (k : Option (List ℕ)). k ≡ None) (λ _. refl) (λ _. at_none (publisher - 1))
  where
    at_none : (i : ℕ) → get_or {A = Option (List ℕ)} (replicate 16 None) i None ≡ None
    at_none i = elim (cases_lt i 16) [
      | inl within ↦ get_or-replicate {A = Option (List ℕ)} 16 i None None within
      | inr past ↦ get_or_past (replicate 16 None) i None (omega (arith, length-replicate {A = Option (List ℕ)} 16 None))
    ]

pub register_first : IsRegister no_publishers
unfolding no_publishers
register_first = record { keys = length-replicate {A = Option (List ℕ)} 16 None; kept = length-replicate {A = Option (List ℕ)} 16 None }

-- ---- each act keeps the places

set_long : (places : Places) (i : ℕ) (x : Option (List ℕ)) → length places ≡ 16 → length (slice_set places i x) ≡ 16
set_long places i x long = length-set places i x ∙ long

pub register_key : (register : Register) (publisher : ℕ) (key : List ℕ) → IsRegister register → IsRegister (after_key register publisher key)
register_key register publisher key ok =
    cond_both (is_new register publisher) (with_key register publisher key) register IsRegister
    (λ _. record { keys = set_long register.keys (publisher - 1) (Some key) ok.keys; kept = ok.kept }) (λ _. ok)

pub kept_key : (register : Register) (publisher : ℕ) (key : List ℕ) → (after_key register publisher key).kept ≡ register.kept
kept_key register publisher key =
    cond_both (is_new register publisher) (with_key register publisher key) register (λ (r : Register). r.kept ≡ register.kept) (λ _. refl) (λ _. refl)

register_with : (register : Register) (bytes : List ℕ) → IsRegister register → IsRegister (with_roll register bytes)
register_with register bytes ok = record { keys = ok.keys; kept = set_long register.kept (publisher_in bytes - 1) (Some bytes) ok.kept }

pub register_took : (register : Register) (kept : Option (List ℕ)) (bytes : List ℕ) → IsRegister register → IsRegister (after_took register (took_of kept bytes) bytes)
register_took register None bytes ok = register_with register bytes ok
register_took register (Some kept) bytes ok =
    cond_both (is_below kept bytes) New (Kept (seq_in kept)) (λ (t : Took). IsRegister (after_took register t bytes)) (λ _. register_with register bytes ok) (λ _. ok)

-- ---- what is kept of a publisher after a right roll

pub took_same : (register : Register) (kept : Option (List ℕ)) (bytes : List ℕ) → IsRegister register → IsPublisher (publisher_in bytes) →
    kept_of register (publisher_in bytes) ≡ kept → kept_of (after_took register (took_of kept bytes) bytes) (publisher_in bytes) ≡ Some (greater kept bytes)
took_same register None bytes ok known is = put_same register.kept (publisher_in bytes) (Some bytes) ok.kept known
took_same register (Some kept) bytes ok known is =
    cond_both (is_below kept bytes) New (Kept (seq_in kept)) (λ (t : Took). kept_of (after_took register t bytes) (publisher_in bytes) ≡ Some (greater (Some kept) bytes))
    (λ low. put_same register.kept (publisher_in bytes) (Some bytes) ok.kept known ∙ ap Some (sym (cond-true (is_below kept bytes) bytes kept low)))
    (λ high. is ∙ ap Some (sym (cond-false (is_below kept bytes) bytes kept high)))

pub took_other : (register : Register) (took : Took) (bytes : List ℕ) (other : ℕ) → 1 ≤ publisher_in bytes → other ≢ publisher_in bytes →
    kept_of (after_took register took bytes) other ≡ kept_of register other
took_other register New bytes other low another = put_other register.kept (publisher_in bytes) other (Some bytes) low another
took_other register (Kept seq) bytes other low another = refl

-- ---- places that are filled one by one

pub copied_on : (copies kept : Places) (place : ℕ) (x : Option (List ℕ)) → place < length copies
    → x ≡ get_or kept place None
    → ((i : ℕ) → i < place → get_or copies i None ≡ get_or kept i None)
    → (i : ℕ) → i < place + 1 → get_or (slice_set copies place x) i None ≡ get_or kept i None
copied_on copies kept place x there is same i lt =
    elim (cases_eq i place) [
      | inl here ↦ ap (λ (k : ℕ). get_or (slice_set copies place x) k None) here
          ∙ get_or-set_same copies place x None there ∙ is ∙ ap (λ (k : ℕ). get_or kept k None) (sym here)
      | inr other ↦ get_or-set_other copies place i x None (omega arith) ∙ same i (omega arith)
    ]

pub copied_all : (copies kept : Places) → length copies ≡ length kept
    → ((i : ℕ) → i < length kept → get_or copies i None ≡ get_or kept i None) → copies ≡ kept
copied_all copies kept long same = ext_get_or None copies kept long (λ i h. same i (omega (arith, h, long)))
