use Rattle.xl_store.specs.Stores.{IsOf}
use Rattle.test_in_memory.proofs.turns.call_all.Given as goal

abbrev pub invariant-loop-number : goal.invariant-loop-number
invariant-loop-number g l = IsOf l.store l.pass
