use Rattle.std.proofs.Common.{refl}
use Rattle.xl_disputes.proofs.Ordered.{alike}
use Rattle.xl_disputes.proofs.hashed_sets.is_same.Goals as goal

pub returns : goal.returns
returns c = λ told. alike c.args.one.now c.args.other.now c.args.one.now c.args.other.now c.eq.result refl refl c.eq.ensures told
