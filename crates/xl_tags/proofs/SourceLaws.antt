-- Which keys a ring has by where they are from.
use Rattle.std.proofs.Common.{◌≡◌, ◌≢◌, ℕ, ◌+◌, ◌-◌, ◌<◌, ◌≤◌, ◌==◌, Bool, true, false, cond, List, length, set, get_or, Option, Some, None, refl, sym, ap, ◌∙◌, inl, inr, arith}
use Rattle.std.specs.Prelude.{◌||◌, is_some}
use Rattle.std.specs.Option.{option_or}
use Rattle.std.specs.Array.{AllOfLen}
use Rattle.std.proofs.lemmas.Bool.{cases_eq, cases_lt, cond_both, eq-eqb}
use Rattle.std.proofs.lemmas.Bool.Decides.{nat_tests}
use Rattle.std.proofs.lemmas.List.{ext_get_or, get_or_past, length-set, get_or-set_same, get_or-set_other}
use Rattle.std.proofs.lemmas.List.FromFn.{length-map-range_with_len, get_or-map-range_with_len}
use Rattle.xl_lists.specs.Lists.{is_outside}
use Rattle.xl_tags.specs.Rings.{Ring, IsRing, key_of, with_key, no_keys, schedule_key, schedule_ring}
use Rattle.xl_tags.specs.Sources.{put_at, made_for, held_key, keys_from, ring_from, IsSource}
use Rattle.xl_tags.proofs.RingLaws.{key_at, key_of-no_keys, no_key, schedule_key-outside, none_of}

-- ---- what was put, and what is made

put_within : (put : List (Option (List ℕ))) (m : ℕ) → 1 ≤ m → put_at put m ≡ get_or put (m - 1) None
put_within put m low =
    cond_both (m == 0) None (get_or put (m - 1) None) (λ k. k ≡ get_or put (m - 1) None) (λ yes. absurd (grind (arith, nat_tests))) (λ _. refl)

put_outside : (put : List (Option (List ℕ))) (m : ℕ) → length put ≡ 64 → is_outside m ≡ true → put_at put m ≡ None
put_outside put m long out =
    cond_both (m == 0) None (get_or put (m - 1) None) (λ k. k ≡ None) (λ _. refl)
    (λ some. get_or_past put (m - 1) None (let far : 64 < m = grind (arith, nat_tests) in omega (arith, long)))

made_none : (me : ℕ) (of_schedule : Bool) (m : ℕ) → schedule_key me m ≡ None → made_for me of_schedule m ≡ None
made_none me of_schedule m none = cond_both of_schedule (schedule_key me m) None (λ k. k ≡ None) (λ _. none) (λ _. refl)

neither : (a b : Option (List ℕ)) → a ≡ None → b ≡ None → option_or a b ≡ None
neither a b first second = ap (λ o. option_or o b) first ∙ second

held_outside : (me : ℕ) (of_schedule : Bool) (put : List (Option (List ℕ))) (m : ℕ) → length put ≡ 64 → is_outside m ≡ true → held_key me of_schedule put m ≡ None
held_outside me of_schedule put m long out =
    neither (put_at put m) (made_for me of_schedule m) (put_outside put m long out) (made_none me of_schedule m (schedule_key-outside me m out))

-- ---- the keys of a ring

long_keys : (me : ℕ) (of_schedule : Bool) (put : List (Option (List ℕ))) → length (keys_from me of_schedule put) ≡ 64
unfolding keys_from
long_keys me of_schedule put = length-map-range_with_len (held_key me of_schedule put) 1 64

within_keys : (me : ℕ) (of_schedule : Bool) (put : List (Option (List ℕ))) (m : ℕ) → 1 ≤ m → m ≤ 64 → get_or (keys_from me of_schedule put) (m - 1) None ≡ held_key me of_schedule put m
unfolding keys_from
within_keys me of_schedule put m low high = get_or-map-range_with_len (held_key me of_schedule put) 1 64 (m - 1) m None (omega (arith, low, high)) (omega (arith, low))

pub key_from : (me : ℕ) (of_schedule : Bool) (put : List (Option (List ℕ))) (m : ℕ) → length put ≡ 64 → key_of (ring_from me of_schedule put) m ≡ held_key me of_schedule put m
key_from me of_schedule put m long = elim (cases_eq m 0) [
  | inl zero ↦ ap (key_of (ring_from me of_schedule put)) zero ∙ sym (held_outside me of_schedule put m long (grind (arith, nat_tests)))
  | inr some ↦ elim (cases_lt 64 m) [
    | inl past ↦
        key_at (ring_from me of_schedule put) m (omega (arith, past)) ∙ get_or_past (keys_from me of_schedule put) (m - 1) None (omega (arith, past, long_keys me of_schedule put))
        ∙ sym (held_outside me of_schedule put m long (grind (arith, nat_tests)))
    | inr within ↦ key_at (ring_from me of_schedule put) m (omega arith) ∙ within_keys me of_schedule put m (omega arith) (omega (arith, within))
  ]
]

own_key : (me : ℕ) → schedule_key me me ≡ None
own_key me = no_key me me (ap (λ b. b || is_outside me) (eq-eqb me me refl))

pub is_ring : (me : ℕ) (of_schedule : Bool) (put : List (Option (List ℕ))) → IsSource me put → IsRing (ring_from me of_schedule put)
is_ring me of_schedule put source = record {
  places = long_keys me of_schedule put;
  own = key_from me of_schedule put me source.places ∙ neither (put_at put me) (made_for me of_schedule me) source.own (made_none me of_schedule me (own_key me));
}

-- rings with the same keys
same_ring : (a b : Ring) → a.me ≡ b.me → length a.keys ≡ 64 → length b.keys ≡ 64 → ((m : ℕ) → 1 ≤ m → m ≤ 64 → key_of a m ≡ key_of b m) → a ≡ b
same_ring a b mine long_a long_b same =
    let keys : a.keys ≡ b.keys = ext_get_or None a.keys b.keys (long_a ∙ sym long_b) (λ i h.
    ap (λ (k : ℕ). get_or a.keys k None) (omega arith) ∙ sym (key_at a (i + 1) (omega arith)) ∙ same (i + 1) (omega arith) (omega (arith, h, long_a))
    ∙ key_at b (i + 1) (omega arith) ∙ ap (λ (k : ℕ). get_or b.keys k None) (omega arith)) in
    ap (λ (m : ℕ). let r : Ring = record { me = m; keys = a.keys } in r) mine ∙ ap (λ (ks : List (Option (List ℕ))). let r : Ring = record { me = b.me; keys = ks } in r) keys

-- ---- if none was put

put_none : (P : Option (List ℕ) → Type 0) → ((key : List ℕ) → P (Some key) → ⊥) → (put : List (Option (List ℕ))) → AllOfLen P put 64 → (m : ℕ) → put_at put m ≡ None
put_none P never put each m = cond_both (m == 0) None (get_or put (m - 1) None) (λ k. k ≡ None) (λ _. refl) (λ _. elim (cases_lt (m - 1) 64) [
  | inl within ↦ none_of P never _ (each.at (m - 1) None (omega (arith, within, each.long)))
  | inr past ↦ get_or_past put (m - 1) None (omega (arith, past, each.long))
])

pub none_source : (P : Option (List ℕ) → Type 0) → ((key : List ℕ) → P (Some key) → ⊥) → (me : ℕ) (put : List (Option (List ℕ))) → AllOfLen P put 64 → IsSource me put
none_source P never me put each = record { places = each.long; own = put_none P never put each me }

long_none : (me : ℕ) → length (no_keys me).keys ≡ 64
unfolding no_keys
long_none me = refl

pub none_ring : (P : Option (List ℕ) → Type 0) → ((key : List ℕ) → P (Some key) → ⊥) → (me : ℕ) (put : List (Option (List ℕ))) → AllOfLen P put 64 → ring_from me false put ≡ no_keys me
unfolding no_keys
none_ring P never me put each =
    same_ring (ring_from me false put) (no_keys me) refl (long_keys me false put) (long_none me)
    (λ m low high. key_from me false put m each.long ∙ neither (put_at put m) None (put_none P never put each m) refl ∙ sym (key_of-no_keys me m))

long_schedule : (me : ℕ) → length (schedule_ring me).keys ≡ 64
unfolding schedule_ring
long_schedule me = length-map-range_with_len (schedule_key me) 1 64

within_schedule : (me m : ℕ) → 1 ≤ m → m ≤ 64 → key_of (schedule_ring me) m ≡ schedule_key me m
unfolding schedule_ring
within_schedule me m low high = key_at (schedule_ring me) m low ∙ get_or-map-range_with_len (schedule_key me) 1 64 (m - 1) m None (omega (arith, low, high)) (omega (arith, low))

pub made_ring : (P : Option (List ℕ) → Type 0) → ((key : List ℕ) → P (Some key) → ⊥) → (me : ℕ) (put : List (Option (List ℕ))) → AllOfLen P put 64 → ring_from me true put ≡ schedule_ring me
unfolding schedule_ring
made_ring P never me put each =
    same_ring (ring_from me true put) (schedule_ring me) refl (long_keys me true put) (long_schedule me)
    (λ m low high. key_from me true put m each.long ∙ ap (λ o. option_or o (schedule_key me m)) (put_none P never put each m) ∙ sym (within_schedule me m low high))

pub made_keys : (P : Option (List ℕ) → Type 0) → ((key : List ℕ) → P (Some key) → ⊥) → (me : ℕ) (put : List (Option (List ℕ))) → AllOfLen P put 64 → (m : ℕ) → key_of (ring_from me true put) m ≡ schedule_key me m
made_keys P never me put each m = key_from me true put m each.long ∙ ap (λ o. option_or o (schedule_key me m)) (put_none P never put each m)

-- ---- one more is put

put_same : (put : List (Option (List ℕ))) (m : ℕ) (key : List ℕ) → length put ≡ 64 → 1 ≤ m → m ≤ 64 → put_at (set put (m - 1) (Some key)) m ≡ Some key
put_same put m key long low high = put_within (set put (m - 1) (Some key)) m low ∙ get_or-set_same put (m - 1) (Some key) None (omega (arith, long, low, high))

put_other : (put : List (Option (List ℕ))) (m n : ℕ) (key : List ℕ) → 1 ≤ m → n ≢ m → put_at (set put (m - 1) (Some key)) n ≡ put_at put n
put_other put m n key low other = elim (cases_eq n 0) [
  | inl zero ↦ ap (put_at (set put (m - 1) (Some key))) zero ∙ sym (ap (put_at put) zero)
  | inr some ↦
      put_within (set put (m - 1) (Some key)) n (omega arith) ∙ get_or-set_other put (m - 1) (n - 1) (Some key) None (λ same. other (omega (arith, same, low))) ∙ sym (put_within put n (omega arith))
]

module _ (me : ℕ) (of_schedule : Bool) (put : List (Option (List ℕ))) (source : IsSource me put) (m : ℕ) (key : List ℕ) (low : 1 ≤ m) (high : m ≤ 64) where
  long_set : length (set put (m - 1) (Some key)) ≡ 64
  long_set = length-set put (m - 1) (Some key) ∙ source.places

  pub set_source : m ≢ me → IsSource me (set put (m - 1) (Some key))
  set_source other = record { places = long_set; own = put_other put m me key low (λ same. other (sym same)) ∙ source.own }

  pub set_kept : key_of (ring_from me of_schedule (set put (m - 1) (Some key))) m ≡ Some key
  set_kept = key_from me of_schedule (set put (m - 1) (Some key)) m long_set ∙ ap (λ o. option_or o (made_for me of_schedule m)) (put_same put m key source.places low high)

  pub set_others : (n : ℕ) → n ≢ m → key_of (ring_from me of_schedule (set put (m - 1) (Some key))) n ≡ key_of (ring_from me of_schedule put) n
  set_others n other =
      key_from me of_schedule (set put (m - 1) (Some key)) n long_set ∙ ap (λ o. option_or o (made_for me of_schedule n)) (put_other put m n key low other)
      ∙ sym (key_from me of_schedule put n source.places)

  with_same : (n : ℕ) → n ≡ m → 1 ≤ n → key_of (with_key (ring_from me of_schedule put) m key) n ≡ Some key
  with_same n same some =
      key_at (with_key (ring_from me of_schedule put) m key) n some ∙ ap (λ (k : ℕ). get_or (set (keys_from me of_schedule put) (m - 1) (Some key)) k None) (omega (arith, same))
      ∙ get_or-set_same (keys_from me of_schedule put) (m - 1) (Some key) None (omega (arith, low, high, long_keys me of_schedule put))

  with_other : (n : ℕ) → n ≢ m → 1 ≤ n → key_of (with_key (ring_from me of_schedule put) m key) n ≡ key_of (ring_from me of_schedule put) n
  with_other n other some =
      key_at (with_key (ring_from me of_schedule put) m key) n some ∙ get_or-set_other (keys_from me of_schedule put) (m - 1) (n - 1) (Some key) None (λ same. other (omega (arith, same, low, some)))
      ∙ sym (key_at (ring_from me of_schedule put) n some)

  pub set_ring : ring_from me of_schedule (set put (m - 1) (Some key)) ≡ with_key (ring_from me of_schedule put) m key
  set_ring =
      same_ring (ring_from me of_schedule (set put (m - 1) (Some key))) (with_key (ring_from me of_schedule put) m key) refl (long_keys me of_schedule (set put (m - 1) (Some key)))
      (length-set (keys_from me of_schedule put) (m - 1) (Some key) ∙ long_keys me of_schedule put)
      (λ n some most. elim (cases_eq n m) [
        | inl same ↦ ap (key_of (ring_from me of_schedule (set put (m - 1) (Some key)))) same ∙ set_kept ∙ sym (with_same n same some)
        | inr other ↦ set_others n other ∙ sym (with_other n other some)
      ])

-- ---- what the code asks

-- a key was put
pub put_held : (a b : Option (List ℕ)) (key : List ℕ) → Some key ≡ a → option_or a b ≡ Some key
put_held (Some x) b key is = sym is
put_held None b key is = absurd cc

-- none was put, and a schedule gives one
pub made_held : (a b : Option (List ℕ)) (of_schedule : Bool) → a ≡ None → of_schedule ≡ true → option_or a (cond of_schedule b None) ≡ b
made_held a b true none is = ap (λ o. option_or o b) none
made_held a b false none is = absurd cc

-- none was put, and they aren't a schedule's
pub none_held : (a b : Option (List ℕ)) (of_schedule : Bool) → a ≡ None → of_schedule ≡ false → option_or a (cond of_schedule b None) ≡ None
none_held a b false none is = ap (λ o. option_or o None) none
none_held a b true none is = absurd cc

-- none was put, and yet there is one
pub given_held : (a b : Option (List ℕ)) (of_schedule : Bool) → a ≡ None → is_some (option_or a (cond of_schedule b None)) ≡ true → option_or a (cond of_schedule b None) ≡ b
given_held a b true none some = ap (λ o. option_or o b) none
given_held a b false none some = absurd (let lost : is_some a ≡ false = ap is_some none in let kept : is_some (option_or a None) ≡ false = ap (λ o. is_some (option_or o None)) none in cc)

pub put_known : (p : Bool) (a b : Option (List ℕ)) → p ≡ is_some a → p ≡ true → p ≡ is_some (option_or a b)
put_known p (Some x) b is put = is
put_known p None b is put = absurd cc

absent : (a : Option (List ℕ)) → is_some a ≡ false → a ≡ None
absent None lacks = refl
absent (Some x) lacks = absurd cc

pub made_known : (p q : Bool) (a b : Option (List ℕ)) (of_schedule : Bool) → p ≡ is_some a → p ≡ false → of_schedule ≡ true → q ≡ is_some b → q ≡ is_some (option_or a (cond of_schedule b None))
made_known p q a b of_schedule is lacks makes other = other ∙ sym (ap is_some (made_held a b of_schedule (absent a (sym is ∙ lacks)) makes))

pub none_known : (p : Bool) (a b : Option (List ℕ)) (of_schedule : Bool) → p ≡ is_some a → p ≡ false → of_schedule ≡ false → of_schedule ≡ is_some (option_or a (cond of_schedule b None))
none_known p a b of_schedule is lacks none = none ∙ sym (ap is_some (none_held a b of_schedule (absent a (sym is ∙ lacks)) none))
