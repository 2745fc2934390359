use Rattle.std.proofs.Common.{refl}
use Rattle.xl_heartbeat.proofs.standing.Standing.of.Goals as goal

pub returns : goal.returns
returns c = rw c.copy.ensures (rw c.copy_of.ensures refl)
