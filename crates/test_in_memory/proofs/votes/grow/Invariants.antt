use Rattle.std.proofs.Common.{◌<◌, length}
use Rattle.test_in_memory.proofs.votes.grow.Given as goal

abbrev pub invariant-loop : goal.invariant-loop
invariant-loop l = l.last < length l.registry.headers
