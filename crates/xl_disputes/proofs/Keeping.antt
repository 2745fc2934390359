-- What is known after a change, once each set has the weight of the positions that stand for it.
use Rattle.std.proofs.Common.{◌≡◌, ℕ, zero, suc, ◌+◌, ◌-◌, ◌<◌, ◌≤◌, Bool, true, false, not, cond, List, [], ◌∷◌, length, map, set, get_or, replicate, refl, sym, ap, subst, ◌∙◌, arith}
use Rattle.std.specs.Prelude.{fold, Option, Some, None}
use Rattle.std.specs.List.{prefix_len}
use Rattle.std.proofs.Math.Path.{fun_ext}
use Rattle.std.proofs.lemmas.List.{length-set}
use Rattle.xl_base.specs.declared.ids.TxId.{TxId}
use Rattle.xl_base.specs.declared.ids.SetId.{SetId}
use Rattle.xl_disputes.specs.Disputes.{with_own}
use Rattle.xl_disputes.specs.Holdings.{Holding, changed, with_set}
use Rattle.xl_disputes.specs.Standings.{names, stand, with_one, standings, weighed, own_in, own_ids, held_in, known_of, IsKept, IsLast, IsWeighable, IsReady}
use Rattle.xl_disputes.specs.declared.shares.TheConstants.{PLACES}
use Rattle.xl_disputes.proofs.Unused.{last_weighed}

-- ---- weights change nothing else

length_weighed : (weights : List ℕ) (hs : List Holding) → length (weighed weights hs) ≡ length hs
length_weighed [] hs = refl
length_weighed (w ∷ weights) [] = refl
length_weighed (w ∷ weights) (h ∷ hs) = omega (arith, length_weighed weights hs)

own_weighed : (weights : List ℕ) (hs : List Holding) → own_in (weighed weights hs) ≡ own_in hs
own_weighed [] hs = refl
own_weighed (w ∷ weights) [] = refl
own_weighed (w ∷ weights) (h ∷ hs) = refl

ids_weighed : (weights : List ℕ) (hs : List Holding) → own_ids (weighed weights hs) ≡ own_ids hs
ids_weighed [] hs = refl
ids_weighed (w ∷ weights) [] = refl
ids_weighed (w ∷ weights) (h ∷ hs) = refl

sets_weighed : (weights : List ℕ) (hs : List Holding) → map (λ h. h.set) (weighed weights hs) ≡ map (λ h. h.set) hs
sets_weighed [] hs = refl
sets_weighed (w ∷ weights) [] = refl
sets_weighed (w ∷ weights) (h ∷ hs) = ap (λ sets. h.set ∷ sets) (sets_weighed weights hs)

held_weighed : (weights : List ℕ) (hs : List Holding) → held_in (weighed weights hs) ≡ held_in hs
held_weighed [] hs = refl
held_weighed (w ∷ weights) [] = refl
held_weighed (w ∷ weights) (h ∷ hs) = sets_weighed weights hs

bits_weighed : (weights : List ℕ) (hs : List Holding) → map (λ h. h.bit) (weighed weights hs) ≡ map (λ h. h.bit) hs
bits_weighed [] hs = refl
bits_weighed (w ∷ weights) [] = refl
bits_weighed (w ∷ weights) (h ∷ hs) = ap (λ bs. h.bit ∷ bs) (bits_weighed weights hs)

weights_weighed : (weights : List ℕ) (hs : List Holding) → length weights ≡ length hs → map (λ h. h.weight) (weighed weights hs) ≡ weights
weights_weighed [] [] same = refl
weights_weighed [] (h ∷ hs) same = absurd (omega (arith, same))
weights_weighed (w ∷ weights) [] same = absurd (omega (arith, same))
weights_weighed (w ∷ weights) (h ∷ hs) same = ap (λ ws. w ∷ ws) (weights_weighed weights hs (omega (arith, same)))

prefix_weighed : (id : SetId) (weights : List ℕ) (hs : List Holding) → prefix_len (λ h. not (names id h.set)) (weighed weights hs) ≡ prefix_len (λ h. not (names id h.set)) hs
prefix_weighed id [] hs = refl
prefix_weighed id (w ∷ weights) [] = refl
prefix_weighed id (w ∷ weights) (h ∷ hs) = ap (λ n. cond (not (names id h.set)) (1 + n) 0) (prefix_weighed id weights hs)

stand_weighed : (weights : List ℕ) (hs : List Holding) (position : Option SetId) → stand (weighed weights hs) position ≡ stand hs position
stand_weighed weights hs None = length_weighed weights hs
stand_weighed weights hs (Some id) = prefix_weighed id weights hs

standings_weighed : (weights : List ℕ) (hs : List Holding) (positions : List (Option SetId)) → standings (weighed weights hs) positions ≡ standings hs positions
standings_weighed weights hs positions =
    ap (λ (place : Option SetId → ℕ). fold (λ ws position. with_one (place position) ws) (replicate PLACES 0) positions) (fun_ext (stand_weighed weights hs))

length_fold : (hs : List Holding) (weights : List ℕ) (positions : List (Option SetId)) → length (fold (λ ws position. with_one (stand hs position) ws) weights positions) ≡ length weights
length_fold hs weights [] = refl
length_fold hs weights (position ∷ positions) =
    length_fold hs (with_one (stand hs position) weights) positions ∙ length-set weights (stand hs position) (get_or weights (stand hs position) 0 + 1)

length_standings : (hs : List Holding) (positions : List (Option SetId)) → length (standings hs positions) ≡ PLACES
length_standings hs positions = length_fold hs (replicate PLACES 0) positions

-- ---- all is kept once the weights are those of the positions

pub unsettled : (hs : List Holding) (positions : List (Option SetId)) (last room : ℕ) → IsWeighable hs positions → IsLast last hs positions → 256 ≤ room → IsReady hs positions last room false
unsettled hs positions last room can ends roomy = record { able = can; ends = ends; roomy = roomy; weights = λ is. absurd (cc is) }

pub kept_settled : (hs new : List Holding) (positions : List (Option SetId)) → IsWeighable hs positions → new ≡ weighed (standings hs positions) hs → IsKept new positions
kept_settled hs new positions can is =
    let weights : List ℕ = standings hs positions in
    subst (λ x. IsKept x positions) (sym is) (record {
      places = length_weighed weights hs ∙ can.places;
      own = own_weighed weights hs ∙ can.own ∙ ap Some (sym (ids_weighed weights hs));
      bits = bits_weighed weights hs ∙ can.bits;
      count = can.count;
      weights = weights_weighed weights hs (length_standings hs positions ∙ sym can.places) ∙ sym (standings_weighed weights hs positions);
    })

pub settled : (hs new : List Holding) (positions : List (Option SetId)) (last room : ℕ) → IsWeighable hs positions → IsLast last hs positions → 256 ≤ room → new ≡ weighed (standings hs positions) hs → IsReady new positions last room true
settled hs new positions last room can ends roomy is =
    let kept : IsKept new positions = kept_settled hs new positions can is in
    record {
      able = record { places = kept.places; own = kept.own; bits = kept.bits; count = kept.count };
      ends = subst (λ x. IsLast last x positions) (sym is) (last_weighed last hs positions can.places ends);
      roomy = roomy;
      weights = λ _. kept.weights;
    }

weighed_so : (hs : List Holding) → weighed (map (λ h. h.weight) hs) hs ≡ hs
weighed_so [] = refl
weighed_so (h ∷ hs) = ap (λ xs. h ∷ xs) (weighed_so hs)

-- weights that are those of the positions stay as they are
pub weighed_already : (hs : List Holding) (positions : List (Option SetId)) → map (λ h. h.weight) hs ≡ standings hs positions → hs ≡ weighed (standings hs positions) hs
weighed_already hs positions is = sym (weighed_so hs) ∙ ap (λ weights. weighed weights hs) is

pub known_settled : (hs new : List Holding) (positions : List (Option SetId)) → new ≡ weighed (standings hs positions) hs → known_of new positions ≡ known_of hs positions
known_settled hs new positions is =
    let weights : List ℕ = standings hs positions in
    ap (λ x. known_of x positions) is
    ∙ ap (λ own. record { own = own; held = held_in (weighed weights hs); positions = positions }) (ids_weighed weights hs)
    ∙ ap (λ held. record { own = own_ids hs; held = held; positions = positions }) (held_weighed weights hs)

-- ---- a set changes

length_changed : (f : Holding → Holding) (place : ℕ) (hs : List Holding) → length (changed f place hs) ≡ length hs
length_changed f place [] = refl
length_changed f zero (h ∷ hs) = refl
length_changed f (suc place) (h ∷ hs) = omega (arith, length_changed f place hs)

bits_changed : (s : Option (List TxId)) (place : ℕ) (hs : List Holding) → map (λ h. h.bit) (changed (with_set s) place hs) ≡ map (λ h. h.bit) hs
bits_changed s place [] = refl
bits_changed s zero (h ∷ hs) = refl
bits_changed s (suc place) (h ∷ hs) = ap (λ bs. h.bit ∷ bs) (bits_changed s place hs)

sets_changed : (s : Option (List TxId)) (place : ℕ) (hs : List Holding) → map (λ h. h.set) (changed (with_set s) place hs) ≡ set (map (λ h. h.set) hs) place s
sets_changed s zero [] = refl
sets_changed s (suc place) [] = refl
sets_changed s zero (h ∷ hs) = refl
sets_changed s (suc place) (h ∷ hs) = ap (λ sets. h.set ∷ sets) (sets_changed s place hs)

-- our own
module _ (ids : List TxId) (hs next : List Holding) (positions : List (Option SetId)) (is : next ≡ changed (with_set (Some ids)) 0 hs) where
  own_taken : (xs : List Holding) → 0 < length xs → own_in (changed (with_set (Some ids)) 0 xs) ≡ Some (own_ids (changed (with_set (Some ids)) 0 xs))
  own_taken [] some = absurd (omega (arith, some))
  own_taken (h ∷ xs) some = refl

  pub own_weighable : IsWeighable hs positions → IsWeighable next positions
  own_weighable can = subst (λ x. IsWeighable x positions) (sym is) (record {
    places = length_changed (with_set (Some ids)) 0 hs ∙ can.places;
    own = own_taken hs (omega (arith, can.places));
    bits = bits_changed (Some ids) 0 hs ∙ can.bits;
    count = can.count;
  })

  own_known' : (xs : List Holding) → 0 < length xs → known_of (changed (with_set (Some ids)) 0 xs) positions ≡ with_own (known_of xs positions) ids
  own_known' [] some = absurd (omega (arith, some))
  own_known' (h ∷ xs) some = refl

  pub own_known : IsWeighable hs positions → known_of next positions ≡ with_own (known_of hs positions) ids
  own_known can = ap (λ x. known_of x positions) is ∙ own_known' hs (omega (arith, can.places))

-- a member's
module _ (s : Option (List TxId)) (member : ℕ) (some : 1 ≤ member) (hs next : List Holding) (positions : List (Option SetId)) (is : next ≡ changed (with_set s) member hs) where
  own_stays : (n : ℕ) → 1 ≤ n → (xs : List Holding) → own_in (changed (with_set s) n xs) ≡ own_in xs
  own_stays zero n xs = absurd (omega (arith, n))
  own_stays (suc n) more [] = refl
  own_stays (suc n) more (h ∷ xs) = refl

  ids_stay : (n : ℕ) → 1 ≤ n → (xs : List Holding) → own_ids (changed (with_set s) n xs) ≡ own_ids xs
  ids_stay zero n xs = absurd (omega (arith, n))
  ids_stay (suc n) more [] = refl
  ids_stay (suc n) more (h ∷ xs) = refl

  held_changed : (n : ℕ) → 1 ≤ n → (xs : List Holding) → 0 < length xs → held_in (changed (with_set s) n xs) ≡ set (held_in xs) (n - 1) s
  held_changed zero n xs filled = absurd (omega (arith, n))
  held_changed (suc n) more [] filled = absurd (omega (arith, filled))
  held_changed (suc n) more (h ∷ xs) filled = let e : suc n - 1 ≡ n = omega arith in sets_changed s n xs ∙ ap (λ m. set (map (λ x. x.set) xs) m s) (sym e)

  pub member_weighable : IsWeighable hs positions → IsWeighable next positions
  member_weighable can = subst (λ x. IsWeighable x positions) (sym is) (record {
    places = length_changed (with_set s) member hs ∙ can.places;
    own = own_stays member some hs ∙ can.own ∙ ap Some (sym (ids_stay member some hs));
    bits = bits_changed s member hs ∙ can.bits;
    count = can.count;
  })

  pub member_known : IsWeighable hs positions → known_of next positions ≡ record { own = own_ids hs; held = set (held_in hs) (member - 1) s; positions = positions }
  member_known can =
      ap (λ x. known_of x positions) is
      ∙ ap (λ own. record { own = own; held = held_in (changed (with_set s) member hs); positions = positions }) (ids_stay member some hs)
      ∙ ap (λ held. record { own = own_ids hs; held = held; positions = positions }) (held_changed member some hs (omega (arith, can.places)))

-- ---- positions change

pub moved_weighable : (hs : List Holding) (old new : List (Option SetId)) → length new ≡ 64 → IsWeighable hs old → IsWeighable hs new
moved_weighable hs old new count can = record { places = can.places; own = can.own; bits = can.bits; count = count }

pub moved_unsettled : (hs : List Holding) (old positions : List (Option SetId)) (before last room : ℕ) (was : Bool) → IsReady hs old before room was → length positions ≡ 64 → IsLast last hs positions → IsReady hs positions last room false
moved_unsettled hs old positions before last room was ready count ends = unsettled hs positions last room (moved_weighable hs old positions count ready.able) ends ready.roomy
