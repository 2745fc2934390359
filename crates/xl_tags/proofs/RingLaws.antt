-- Which keys a ring has.
use Rattle.std.proofs.Common.{◌≡◌, ◌≢◌, ℕ, ◌-◌, ◌<◌, ◌≤◌, ◌==◌, true, List, replicate, get_or, Option, Some, None, IsSome, refl, sym, ap, ◌∙◌, inl, inr, arith}
use Rattle.std.specs.Prelude.{◌||◌}
use Rattle.std.proofs.lemmas.Bool.{cases_eq, cases_lt, cond_both, cond-true, cond-false, or_right}
use Rattle.std.proofs.lemmas.Bool.Decides.{nat_tests}
use Rattle.std.proofs.lemmas.List.{get_or-replicate, length-replicate, get_or_past}
use Rattle.std.specs.Prelude.{is_some}
use Rattle.std.proofs.lemmas.List.Elements.{All-weaker}
use Rattle.xl_lists.specs.Lists.{TrustedList, IsValid, is_outside}
use Rattle.xl_tags.specs.Opening.{HasKeys}
use Rattle.xl_tags.specs.Rings.{Ring, IsRing, key_of, no_keys, schedule_key}
use Rattle.xl_tags.specs.PairKeys.{pair_key_of}

-- a place has no key, if none has
at_none : (i : ℕ) → get_or {A = Option (List ℕ)} (replicate 64 None) i None ≡ None
at_none i = elim (cases_lt i 64) [
  | inl within ↦ get_or-replicate {A = Option (List ℕ)} 64 i None None within
  | inr past ↦ get_or_past (replicate 64 None) i None (omega (arith, length-replicate {A = Option (List ℕ)} 64 None))
]

-- what isn't a key is none
pub none_of : (P : Option (List ℕ) → Type 0) → ((key : List ℕ) → P (Some key) → ⊥) → (o : Option (List ℕ)) → P o → o ≡ None
none_of P never None h = refl
none_of P never (Some key) h = absurd (never key h)

pub key_of-no_keys : (me member : ℕ) → key_of (no_keys me) member ≡ None
unfolding no_keys
key_of-no_keys me member =
    cond_both (member == 0) None (get_or (replicate 64 None) (member - 1) None) (λ k. k ≡ None) (λ _. refl) (λ _. at_none (member - 1))

-- a member's key stands at its place
pub key_at : (ring : Ring) (member : ℕ) → 1 ≤ member → key_of ring member ≡ get_or ring.keys (member - 1) None
key_at ring member low =
    cond_both (member == 0) None (get_or ring.keys (member - 1) None) (λ k. k ≡ get_or ring.keys (member - 1) None) (λ yes. absurd (grind (arith, nat_tests))) (λ _. refl)

pub key_of-outside : (ring : Ring) (member : ℕ) → IsRing ring → is_outside member ≡ true → key_of ring member ≡ None
key_of-outside ring member ok out = elim (cases_eq member 0) [
  | inl zero ↦ ap (key_of ring) zero
  | inr some ↦ key_at ring member (omega arith) ∙ get_or_past ring.keys (member - 1) None (let far : 64 < member = grind (arith, nat_tests) in omega (arith, ok.places))
]

-- the key of a schedule's pair, by cases
pub no_key : (me m : ℕ) → (m == me || is_outside m) ≡ true → schedule_key me m ≡ None
no_key me m e = cond-true (m == me || is_outside m) None (Some (pair_key_of me m)) e

pub schedule_key-outside : (me m : ℕ) → is_outside m ≡ true → schedule_key me m ≡ None
schedule_key-outside me m out = no_key me m (or_right (m == me) (is_outside m) out)

schedule_key-another : (me m : ℕ) → m ≢ me → 1 ≤ m → m ≤ 64 → schedule_key me m ≡ Some (pair_key_of me m)
schedule_key-another me m other low high = cond-false (m == me || is_outside m) None (Some (pair_key_of me m)) (grind (arith, nat_tests))

-- a ring with the key of each pair has one for each listed member but its own
pub schedule_covers : (me : ℕ) (ring : Ring) (list : TrustedList) → ring.me ≡ me → ((m : ℕ) → key_of ring m ≡ schedule_key me m)
    → IsValid list → HasKeys ring list.members
schedule_covers me ring list mine keys valid =
    All-weaker (λ m. (1 ≤ m) × (m ≤ 64)) (λ m. m ≢ ring.me → IsSome (key_of ring m))
    (λ m within other. ap is_some (keys m ∙ schedule_key-another me m (λ same. other (same ∙ sym mine)) within.0 within.1)) list.members valid.numbers
