use Rattle.std.proofs.Common.{◌++◌, ◌∙◌, List, ap}
use Rattle.xl_world.specs.declared.outcome.Outcome.{Outcome}
use Rattle.xl_world.specs.Schedule.{outcomes_at, steps_at}
use Rattle.xl_world.specs.World.{World}
use Rattle.xl_world.proofs.Ending.{event_same, kept_on, kept_same}
use Rattle.xl_world.proofs.Seating.{seats_on}
use Rattle.xl_world.proofs.world.World.event.Goals as goal

pub happen-requires-clause-seats : goal.happen-requires-clause-seats
happen-requires-clause-seats c = c.self.invariant.seats c.if-self.false

pub invariant_of-self : goal.invariant_of-self
invariant_of-self c = record {
  kept = kept_on c.self.inside.spent c.self.inside.network c.happen.new.self c.args.event.now.at c.args.event.now.what c.if-self.false c.in-Ok.ensures.world c.requires.plausible c.self.invariant.kept;
  seats = λ going.
      seats_on c.self.inside.seats c.self.inside.network c.happen.new.self (steps_at c.self.inside.network c.args.event.now.at c.args.event.now.what) c.in-Ok.ensures.world (c.self.invariant.seats c.if-self.false);
}

pub returns-in-Ok-clause-world : goal.returns-in-Ok-clause-world
returns-in-Ok-clause-world c =
    event_same c.self.inside.spent c.self.inside.network c.happen.new.self c.args.self.now c.args.event.now c.self.view_is c.self.invariant.kept c.if-self.false c.in-Ok.ensures.world

pub returns-in-Ok-clause-told : goal.returns-in-Ok-clause-told
returns-in-Ok-clause-told c =
    c.from_vec.ensures
    ∙ (c.in-Ok.ensures.told
    ∙ (ap (λ (os : List Outcome). os ++ outcomes_at c.self.inside.network c.args.event.now.at c.args.event.now.what) c.nothing_told-told.ensures
    ∙ ap (λ (w : World). outcomes_at w c.args.event.now.at c.args.event.now.what) (kept_same c.self.inside.spent c.self.inside.network c.args.self.now c.self.view_is c.self.invariant.kept c.if-self.false)))
