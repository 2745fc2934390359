use Rattle.xl_store.specs.Stores.{IsOf}
use Rattle.test_in_memory.proofs.turns.beat.Given as goal

abbrev pub invariant-loop : goal.invariant-loop
invariant-loop g l = IsOf l.store l.pass
