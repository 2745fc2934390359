use Rattle.std.proofs.Common.{◌≡◌, ℕ, replicate, ap, ◌∙◌, arith}
use Rattle.xl_negative.specs.Ringing.{ring_keeping}
use Rattle.xl_negative.specs.Seats.{empty_seat}
use Rattle.xl_negative.proofs.Seating.{all_empty}
use Rattle.xl_negative.proofs.seats.empty_seats.Goals as goal

pub returns : goal.returns
returns c =
    let all : c.loop.counter ≡ 64 = omega (arith, c.loop-test.false, c.loop.auto.counter-end) in
    all_empty c.loop.seats.items (c.loop.invariant.2 ∙ ap (λ (n : ℕ). replicate n (empty_seat ring_keeping)) all)
