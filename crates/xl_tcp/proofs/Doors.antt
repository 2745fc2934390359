-- What a door over TCP tells of a line.
use Rattle.std.proofs.Common.{◌≡◌, ◌<◌, ◌++◌, ℕ, List, [], ◌∷◌, None, length, length-append, refl, arith}
use Rattle.xl_links.specs.declared.door.Arrival.{Arrival}
use Rattle.xl_links.specs.declared.door.Arrival.TheVariants as arrival
use Rattle.xl_links.specs.Doors.{Comes}
use Rattle.xl_tcp.specs.Answers.{FitsLine, untold_door}

-- some line is longer than a room
longer : (room : List ℕ) → length room < length (room ++ 0 ∷ [])
longer room = let e = length-append room (0 ∷ []) in omega (arith, e)

line_fails : (n : ℕ) → arrival.Line n ≡ arrival.Failed → ⊥
line_fails n e = cc

long_fails : arrival.Long ≡ arrival.Failed → ⊥
long_fails e = cc

idle_fails : arrival.Idle ≡ arrival.Failed → ⊥
idle_fails e = cc

-- a line that fits comes, or one that is too long, or none
pub untold_comes : (old new : ℕ) (answer : Arrival) (room : List ℕ) → new ≡ old → FitsLine answer room
    → Comes (untold_door old) answer room (untold_door new)
untold_comes old new (arrival.Line n) room same fits = record {
  came = (fits, refl);
  took = refl;
  later = omega (arith, same);
  failed = λ e. absurd (line_fails n e);
}
untold_comes old new arrival.Long room same fits = record {
  came = (room ++ 0 ∷ [], longer room, refl);
  took = refl;
  later = omega (arith, same);
  failed = λ e. absurd (long_fails e);
}
untold_comes old new arrival.Idle room same fits = record {
  came = refl;
  took = refl;
  later = omega (arith, same);
  failed = λ e. absurd (idle_fails e);
}
untold_comes old new arrival.Failed room same fits = absurd fits
