-- after our own place each turn adds the next member's, with the next power of 2 for its bit
use Rattle.std.proofs.Common.{◌≡◌, ℕ, zero, suc, ◌+◌, ◌-◌, ◌^◌, [], ◌∷◌, ◌++◌, map, refl, ap, ◌∙◌, arith}
use Rattle.std.specs.List.{range_with_len}
use Rattle.xl_disputes.specs.Holdings.{empty_own, no_holding}
use Rattle.xl_disputes.specs.declared.shares.TheConstants.{PLACES}
use Rattle.xl_disputes.proofs.shares.no_places.Goals as goal

one_more : (s n : ℕ) → map (λ m. no_holding (2 ^ m)) (range_with_len s n) ++ no_holding (2 ^ (s + n)) ∷ [] ≡ map (λ m. no_holding (2 ^ m)) (range_with_len s (n + 1))
one_more s zero = let e : s + 0 ≡ s = omega arith in rw e refl
one_more s (suc n) =
    let e : s + suc n ≡ s + 1 + n = omega arith in
    let f : suc n + 1 ≡ suc (n + 1) = omega arith in rw (e, f) (ap (λ hs. no_holding (2 ^ s) ∷ hs) (one_more (s + 1) n))

next : (n : ℕ) → map (λ m. no_holding (2 ^ m)) (range_with_len 0 n) ++ no_holding (2 ^ n) ∷ [] ≡ map (λ m. no_holding (2 ^ m)) (range_with_len 0 (n + 1))
next n = ap (λ k. map (λ m. no_holding (2 ^ m)) (range_with_len 0 n) ++ no_holding (2 ^ k) ∷ []) (plus n) ∙ one_more 0 n
  where
    plus : (k : ℕ) → k ≡ 0 + k
    plus k = omega arith

pub loop-place-preserved : goal.loop-place-preserved
loop-place-preserved c =
    let more : c.loop-place.place - 1 + 1 ≡ c.loop-place.place + 1 - 1 = omega (arith, c.loop-place.auto.place) in
    record {
      all =
          c.push_reserved-in-loop-place.ensures.items ∙ ap (λ h. c.loop-place.places.items ++ h ∷ []) (c.in_ok-free.ensures ∙ ap no_holding c.bit_of.ensures)
          ∙ ap (λ hs. hs ++ no_holding (2 ^ (c.loop-place.place - 1)) ∷ []) c.loop-place.invariant.all
          ∙ ap (λ hs. empty_own ∷ hs) (next (c.loop-place.place - 1)) ∙ ap (λ n. empty_own ∷ map (λ m. no_holding (2 ^ m)) (range_with_len 0 n)) more;
      count = omega (arith, c.push_reserved-in-loop-place.ensures.len, c.loop-place.invariant.count);
      room = omega (arith, c.push_reserved-in-loop-place.ensures.capacity, c.loop-place.invariant.room);
    }

pub returns : goal.returns
returns c =
    let all : c.loop-place.place ≡ PLACES = omega (arith, c.loop-place-test.false, c.loop-place.auto.place-end (omega arith)) in
    c.loop-place.invariant.all ∙ ap (λ n. empty_own ∷ map (λ m. no_holding (2 ^ m)) (range_with_len 0 (n - 1))) all
