use Rattle.std.proofs.Common.{◌≡◌}
use Rattle.xl_turns.specs.Passes.{known}
use Rattle.xl_store.specs.Stores.{IsOf}
use Rattle.xl_heartbeat.proofs.beating.tell_to_stop.Given as goal

abbrev pub invariant-loop : goal.invariant-loop
invariant-loop g l = record {
  pass : IsOf l.store l.pass;
  same : known l.pass ≡ known l.initial.pass;
}
