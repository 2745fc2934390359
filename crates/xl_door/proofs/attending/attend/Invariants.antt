use Rattle.std.proofs.Common.{[]}
use Rattle.xl_turns.specs.Passes.{known}
use Rattle.xl_store.specs.Stores.{start_of, IsOf}
use Rattle.xl_door.specs.Attending.{Attending}
use Rattle.xl_door.proofs.attending.attend.Given as goal

abbrev pub invariant-loop : goal.invariant-loop
invariant-loop g l = record {
  pass : IsOf l.store l.pass;
  far : Attending (start_of l.store) (g.C.Clock.may_give l.clock) (known l.initial.pass) (g.D.Door.shows l.initial.door)
      [] (known l.pass) (g.D.Door.shows l.door);
}
