use Rattle.std.proofs.Common.{◌-◌, ◌*◌}
use Rattle.test_in_memory.proofs.turns.+beat_in+fn-beat_in-join+arg2+fn-beat_in-join+arg3.Given as goal

abbrev pub decreases-beat_in : goal.decreases-beat_in
decreases-beat_in g l = 2 * l.halvings

abbrev pub decreases-join+arg2 : goal.decreases-join+arg2
decreases-join+arg2 g l = 2 * l.halvings - 1

abbrev pub decreases-join+arg3 : goal.decreases-join+arg3
decreases-join+arg3 g l = 2 * l.halvings - 1
