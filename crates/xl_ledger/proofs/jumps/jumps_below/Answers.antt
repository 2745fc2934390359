use Rattle.std.proofs.Common.{refl, arith}
use Rattle.xl_ledger.specs.Tables.{headers_of}
use Rattle.xl_ledger.proofs.Jumping.{filled_first, filled_next, filled_all}
use Rattle.xl_ledger.proofs.jumps.jumps_below.Goals as goal

pub loop-level-init : goal.loop-level-init
loop-level-init c = filled_first c.args.ledgers.now c.requires.jumps c.args.parent c.requires.known _ refl

pub loop-level-preserved : goal.loop-level-preserved
loop-level-preserved c =
    let l = c.loop-level in
    filled_next c.args.ledgers.now c.requires.jumps c.args.parent c.requires.known l.jumps l.level l.at c.place.result _ c.index-reached-level.result c.index-ledgers-place.result l.invariant
    (omega arith) c.loop-level-test.true c.place.ensures c.index-ledgers-place.is refl

pub returns : goal.returns
returns c = filled_all (headers_of c.args.ledgers.now) c.args.parent c.loop-level.level c.loop-level.at c.loop-level.jumps c.loop-level.invariant c.loop-level-test.false
