use Rattle.std.proofs.Common.{◌∙◌, ◌-◌, ℕ, List, Option, ap, arith, get_or, length}
use Rattle.xl_world.proofs.Seating.{seat_there, seats_long}
use Rattle.xl_world.proofs.seat_table.Seats.seat_of.Goals as goal

pub index-requires : goal.index-requires
index-requires c = omega (arith, c.get.ensures.first, c.get.ensures.last, ap length c.self.view_is, seats_long c.args.self.now c.args.places.now c.requires)

pub returns : goal.returns
returns c =
    c.index.ensures
    ∙ (ap (λ (xs : List (Option ℕ)). get_or xs (c.get.result - 1) c.index.result.now) c.self.view_is
    ∙ (ap (λ (n : ℕ). get_or c.args.self.now (n - 1) c.index.result.now) c.get.ensures.value
    ∙ seat_there c.args.self.now c.args.places.now c.args.i c.index.result.now c.requires (omega (arith, c.get.ensures.first, c.get.ensures.value)) (omega (arith, c.get.ensures.last, c.get.ensures.value))))
