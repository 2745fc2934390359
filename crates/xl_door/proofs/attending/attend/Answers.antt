-- attending starts with nothing done, and each round follows on all the rounds before
use Rattle.std.proofs.Common.{[], subst}
use Rattle.xl_turns.specs.Passes.{known}
use Rattle.xl_store.specs.Stores.{start_of, turns_of}
use Rattle.xl_door.specs.Attending.{Follows}
use Rattle.xl_door.proofs.Rounds.{attending_none, attending_both, over_behind}
use Rattle.xl_door.proofs.attending.attend.Goals as goal

pub loop-init : goal.loop-init
loop-init g c = record {
  pass = c.requires.pass;
  far = attending_none (start_of c.args.store.now) (g.C.Clock.may_give c.args.clock.now) (known c.args.pass.now)
      (g.D.Door.shows c.args.door.now);
}

pub loop-preserved-in-Ok-None : goal.loop-preserved-in-Ok-None
loop-preserved-in-Ok-None g c =
    let start = start_of c.args.store.now in
    let turns = turns_of c.args.store.now in
    let may = g.C.Clock.may_give c.args.clock.now in
    let here = subst (λ o. Follows start turns may (known c.loop.pass) (g.D.Door.shows c.loop.door) o (known c.round.new.pass)
    (g.D.Door.shows c.round.new.door)) c.in-Ok-None.field-0-is c.in-Ok-None.ensures.follows in
    record {
      pass = c.in-Ok-None.ensures.pass;
      far = attending_both start may (known c.args.pass.now) (known c.loop.pass) (known c.round.new.pass)
          (g.D.Door.shows c.args.door.now) (g.D.Door.shows c.loop.door) (g.D.Door.shows c.round.new.door) []
          c.loop.invariant.far here;
    }

pub returns-in-Ok-Some-clause-attends : goal.returns-in-Ok-Some-clause-attends
returns-in-Ok-Some-clause-attends g c =
    let store = c.args.store.now in
    let start = start_of store in
    let turns = turns_of store in
    let may = g.C.Clock.may_give c.args.clock.now in
    let here = subst (λ o. Follows start turns may (known c.loop.pass) (g.D.Door.shows c.loop.door) o (known c.round.new.pass)
    (g.D.Door.shows c.round.new.door)) c.in-Ok-Some.field-0-is c.in-Ok-Some.ensures.follows in
    over_behind start may turns (known c.args.pass.now) (known c.loop.pass) (known c.round.new.pass)
    (g.D.Door.shows c.args.door.now) (g.D.Door.shows c.loop.door) (g.D.Door.shows c.round.new.door) _
    c.loop.invariant.far here
