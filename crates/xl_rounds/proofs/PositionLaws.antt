-- The members' positions, place by place.
use Rattle.std.proofs.Common.{◌≡◌, ℕ, ◌+◌, ◌<◌, ◌≤◌, Bool, true, false, not, List, [], ◌∷◌, ◌++◌, length, take, drop, set, get_or, map, arith, ap, sym, ◌∙◌, refl, Option, Some, None}
use Rattle.std.specs.Prelude.{◌↔◌, IsFalse, Decides, option_map}
use Rattle.std.specs.Str.{bytes_eq}
use Rattle.std.proofs.lemmas.List.{length-set, length-map, length-take-le, map-set, take_more, take_all, drop_all, take_more_set, drop_more, map_more, get_or_at, set_at, append_assoc, append-nil, length_push}
use Rattle.std.proofs.lemmas.List.Elements.{filter_map-append}
use Rattle.std.proofs.lemmas.List.Sums.{sum_by-set}
use Rattle.std.proofs.lemmas.Slice.Eq.{slice_eq-Decides}
use Rattle.xl_base.specs.declared.ids.TxId.{TxId}
use Rattle.xl_base.specs.declared.ids.SetId.{SetId}
use Rattle.xl_disputes.proofs.Ordered.{tx_decides}
use Rattle.xl_wire.specs.declared.proposal.Proposal.{Proposal}
use Rattle.xl_rounds.specs.Heartbeats.{is_same_set}
use Rattle.xl_rounds.specs.Positions.{set_named, times_of}
use Rattle.xl_rounds.specs.Rest.{one_if, AreNamed}

module _ (members : List (Option Proposal)) (count : ℕ) (named : List (Option SetId)) (are : AreNamed members count named) where
  -- a position that is there was counted
  pub was_counted : (place : ℕ) (d : Option Proposal) → place < 64 → one_if (get_or members place d) ≤ count
  was_counted place d within = omega (arith, are.counted, sum_by-set one_if members place None d (omega (arith, within, are.places)))

  -- count and disputes follow a change of a position
  pub named_set : (place new : ℕ) (position d : Option Proposal) → place < 64 → new + one_if (get_or members place d) ≡ count + one_if position →
      AreNamed (set members place position) new (set named place (set_named position))
  named_set place new position d within changed = record {
    places = length-set members place position ∙ are.places;
    counted = omega (arith, are.counted, changed, sum_by-set one_if members place position d (omega (arith, within, are.places)));
    sets = ap (λ ns. set ns place (set_named position)) are.sets ∙ sym (map-set set_named members place position);
  }

-- the test of a change, by what the disputes tell of it
tested : (same changed : Bool) (next own : List TxId) → Decides same (next ≡ own) → (IsFalse changed ↔ (next ≡ own)) → changed ≡ not same
tested true true next own d is = absurd (cc (is.1 (d.0 refl)))
tested true false next own d is = refl
tested false true next own d is = refl
tested false false next own d is = absurd (cc (d.1 (is.0 refl)))

pub changed_is : (changed : Bool) (next own : List TxId) → (IsFalse changed ↔ (next ≡ own)) → changed ≡ not (is_same_set next own)
changed_is changed next own is =
    tested (is_same_set next own) changed next own (slice_eq-Decides {E = λ (a b : TxId). bytes_eq a.0 b.0} tx_decides next own (is_same_set next own) refl) is

-- ---- a change at each place in turn

pub map_next : {X : Type 0} (f : X → X) (xs : List X) (i : ℕ) (d : X) → i < length xs →
    set (map f (take i xs) ++ drop i xs) i (f (get_or (map f (take i xs) ++ drop i xs) i d)) ≡ map f (take (i + 1) xs) ++ drop (i + 1) xs
map_next {X} f xs i d within =
    let front : List X = map f (take i xs) in
    let rest : List X = drop (i + 1) xs in
    let len : length front ≡ i = length-map (take i xs) f ∙ length-take-le i xs (omega arith) in
    let parted : front ++ drop i xs ≡ front ++ get_or xs i d ∷ rest = ap (λ ys. front ++ ys) (drop_more xs i d within) in
    ap (λ ys. set ys i (f (get_or ys i d))) parted
    ∙ ap (λ y. set (front ++ get_or xs i d ∷ rest) i (f y)) (get_or_at front (get_or xs i d) rest d i len)
    ∙ set_at front (get_or xs i d) rest (f (get_or xs i d)) i len
    ∙ sym (ap (λ ys. ys ++ rest) (map_more f xs i d within) ∙ append_assoc front (f (get_or xs i d) ∷ []) rest)

pub map_done : {X : Type 0} (f : X → X) (xs : List X) (i : ℕ) → length xs ≤ i → map f (take i xs) ++ drop i xs ≡ map f xs
map_done f xs i past = ap (λ ys. map f ys ++ drop i xs) (take_all i xs past) ∙ ap (λ ys. map f xs ++ ys) (drop_all i xs past) ∙ append-nil (map f xs)

-- ---- the close times

-- those of the first i places lie in the front of the room
pub record AreWritten (members : List (Option Proposal)) (i len : ℕ) (room : List ℕ) : Type 0 where
  pub counted : len ≡ length (times_of (take i members))
  pub within : len ≤ i
  pub times : take len room ≡ times_of (take i members)

times_next : (members : List (Option Proposal)) (i : ℕ) → i < length members →
    times_of (take (i + 1) members) ≡ times_of (take i members) ++ times_of (get_or members i None ∷ [])
times_next members i within =
    ap times_of (take_more members i None within)
    ∙ filter_map-append (λ p. option_map (λ (q : Proposal). q.close) p) (take i members) (get_or members i None ∷ [])

pub one_written : (members : List (Option Proposal)) (i len : ℕ) (room : List ℕ) (p : Proposal) → i < length members → len < length room →
    get_or members i None ≡ Some p → AreWritten members i len room → AreWritten members (i + 1) (len + 1) (set room len p.close)
one_written members i len room p within fits is so_far =
    let more : times_of (take (i + 1) members) ≡ times_of (take i members) ++ p.close ∷ [] = times_next members i within ∙ ap (λ q. times_of (take i members) ++ times_of (q ∷ [])) is in
    record {
      counted = ap (λ n. n + 1) so_far.counted ∙ sym (ap length more ∙ length_push (times_of (take i members)) p.close);
      within = omega (arith, so_far.within);
      times = take_more_set room len p.close fits ∙ ap (λ ts. ts ++ p.close ∷ []) so_far.times ∙ sym more;
    }

pub none_written : (members : List (Option Proposal)) (i len : ℕ) (room : List ℕ) → i < length members →
    get_or members i None ≡ None → AreWritten members i len room → AreWritten members (i + 1) len room
none_written members i len room within is so_far =
    let more : times_of (take (i + 1) members) ≡ times_of (take i members) =
    times_next members i within ∙ ap (λ q. times_of (take i members) ++ times_of (q ∷ [])) is ∙ append-nil (times_of (take i members)) in
    record {
      counted = so_far.counted ∙ sym (ap length more);
      within = omega (arith, so_far.within);
      times = so_far.times ∙ sym more;
    }
