use Rattle.std.proofs.Common.{◌≡◌, ◌-◌, ◌^◌, ◌≤◌, ◌∷◌, map, vec_len, vec_capacity}
use Rattle.std.specs.List.{range_with_len}
use Rattle.xl_disputes.specs.Holdings.{empty_own, no_holding}
use Rattle.xl_disputes.specs.declared.shares.TheConstants.{PLACES}
use Rattle.xl_disputes.proofs.shares.no_places.Given as goal

abbrev pub invariant-loop-place : goal.invariant-loop-place
invariant-loop-place l = record {
  all : l.places.items ≡ empty_own ∷ map (λ n. no_holding (2 ^ n)) (range_with_len 0 (l.place - 1));
  count : vec_len l.places ≡ l.place;
  room : PLACES ≤ vec_capacity l.places;
}
