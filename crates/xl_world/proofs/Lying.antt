-- A lie is sealed by the one key that its sender shares with its receiver.
use Rattle.std.proofs.Common.{◌≡◌, ◌≢◌, ℕ, ◌-◌, ◌≤◌, List, Option, Some, None, refl, ap, sym, ◌∙◌, arith}
use Rattle.std.specs.Prelude.{◌==◌, ◌||◌, IsSome, option_map, unwrap_or}
use Rattle.std.proofs.lemmas.Bool.{cond-true, cond-false}
use Rattle.std.proofs.lemmas.Bool.Decides.{nat_tests}
use Rattle.std.proofs.lemmas.List.FromFn.{get_or-map-range_with_len}
use Rattle.xl_lists.specs.Lists.{is_outside}
use Rattle.xl_wire.specs.Raws.{RawFrame, raw_bytes}
use Rattle.xl_tags.specs.Macs.{mac}
use Rattle.xl_tags.specs.PairKeys.{pair_key_of}
use Rattle.xl_tags.specs.Rings.{Ring, key_of, schedule_key, schedule_ring}
use Rattle.xl_tags.specs.Sealing.{before_tag, sealed, tag_by, with_tag}
use Rattle.xl_tags.proofs.RingLaws.{key_at}

-- the key that a schedule gives a number stands at its place
pub key_in_ring : (from to : ℕ) → 1 ≤ to → to ≤ 64 → key_of (schedule_ring from) to ≡ schedule_key from to
unfolding schedule_ring
key_in_ring from to low high =
    key_at (schedule_ring from) to low ∙ get_or-map-range_with_len (schedule_key from) 1 64 (to - 1) to None (omega arith) (omega arith)

pub key_of_another : (from to : ℕ) → 1 ≤ to → to ≤ 64 → to ≢ from → key_of (schedule_ring from) to ≡ Some (pair_key_of from to)
key_of_another from to low high other =
    key_in_ring from to low high ∙ cond-false (to == from || is_outside to) None (Some (pair_key_of from to)) (grind (arith, nat_tests))

pub key_of_own : (from to : ℕ) → 1 ≤ to → to ≤ 64 → to ≡ from → key_of (schedule_ring from) to ≡ None
key_of_own from to low high same =
    key_in_ring from to low high ∙ cond-true (to == from || is_outside to) None (Some (pair_key_of from to)) (grind (arith, nat_tests))

-- the tag of a frame to another number
pub tag_by_pair : (from to : ℕ) (f : RawFrame) (part tag : List ℕ) → 1 ≤ to → to ≤ 64 → to ≢ from → f.to ≡ to → part ≡ before_tag (raw_bytes f) → tag ≡ mac (pair_key_of from to) part →
    tag_by (schedule_ring from) f.to f ≡ Some tag
tag_by_pair from to f part tag low high other is_to is_part is_tag =
    ap (option_map (λ key. mac key (before_tag (raw_bytes f)))) (ap (key_of (schedule_ring from)) is_to ∙ key_of_another from to low high other)
    ∙ ap (λ (t : List ℕ). Some t) (sym (is_tag ∙ ap (mac (pair_key_of from to)) is_part))

none_some : (o : Option (List ℕ)) → o ≡ None → IsSome o → ⊥
none_some None none some = cc
none_some (Some key) none some = cc

kept_tag : (f : RawFrame) (g : List ℕ → List ℕ) (o : Option (List ℕ)) → (IsSome o → ⊥) → with_tag f (unwrap_or (option_map g o) f.tag) ≡ f
kept_tag f g None none = refl
kept_tag f g (Some key) none = absurd (none refl)

-- without a key a frame stays as it is
pub unsealed : (ring : Ring) (f : RawFrame) → (IsSome (key_of ring f.to) → ⊥) → sealed ring f ≡ f
unsealed ring f none = kept_tag f _ (key_of ring f.to) none

-- a number has no key for itself
pub keyless : (from to : ℕ) (f : RawFrame) → 1 ≤ to → to ≤ 64 → to ≡ from → f.to ≡ to → IsSome (key_of (schedule_ring from) f.to) → ⊥
keyless from to f low high same is_to = none_some (key_of (schedule_ring from) f.to) (ap (key_of (schedule_ring from)) is_to ∙ key_of_own from to low high same)
