use Rattle.std.proofs.Common.{take}
use Rattle.xl_turns.specs.Passes.{known}
use Rattle.xl_store.specs.Stores.{start_of, IsOf}
use Rattle.xl_workers.specs.Submits.{Submitted}
use Rattle.xl_workers.proofs.submitting.submit_all.Given as goal

abbrev pub invariant-loop-id : goal.invariant-loop-id
invariant-loop-id g l = record {
  pass : IsOf l.store l.pass;
  submits : Submitted (start_of l.store) (g.C.Clock.may_give l.clock)
      (known l.initial.pass) (take l.id-index l.ids) (known l.pass);
}
