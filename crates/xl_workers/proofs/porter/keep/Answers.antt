-- with a door it was attended, and without one nothing changes
use Rattle.std.proofs.Common.{Option, Some, sym, subst}
use Rattle.xl_turns.specs.Passes.{known}
use Rattle.xl_store.specs.Stores.{start_of, turns_of}
use Rattle.xl_workers.specs.Doors.{AttendsIf}
use Rattle.xl_workers.proofs.Porters.{kept_none}
use Rattle.xl_workers.proofs.porter.keep.Goals as goal

pub returns-in-Some : goal.returns-in-Some
returns-in-Some g c =
    let store = c.args.store.now in
    let may = g.C.Clock.may_give c.args.host.now.clock.now in
    record {
      pass = c.attend.ensures.pass;
      attends = subst
          (λ (door : Option g.row.D.Denot).
          AttendsIf (start_of store) (turns_of store) may g.D.Door.shows door (Some c.attend.new.door)
          (known c.args.porter.now.pass) (known c.attend.new.pass))
          (sym c.in-Some.is) (c.attend.result, c.attend.ensures.attends);
    }

pub returns-in-None : goal.returns-in-None
returns-in-None g c =
    kept_none c.args.store.now (g.C.Clock.may_give c.args.host.now.clock.now) g.D.Door.shows c.args.porter.now
    c.requires.pass c.in-None.is
