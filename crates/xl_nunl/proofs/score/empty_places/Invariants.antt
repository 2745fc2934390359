use Rattle.std.proofs.Common.{◌≡◌, ◌≤◌, replicate, None, vec_len, vec_capacity}
use Rattle.xl_nunl.proofs.score.empty_places.Given as goal

abbrev pub invariant-loop : goal.invariant-loop
invariant-loop l = (vec_len l.places ≡ l.counter) × (32768 ≤ vec_capacity l.places) × (l.places.items ≡ replicate l.counter None)
