use Rattle.std.proofs.Common.{arith, ltb-true, ◌<◌, ◌+◌}
use Rattle.xl_lists.proofs.Counting.{enough_meet}
use Rattle.xl_lists.proofs.quorum.enough.Goals as goal

pub returns-clause-meet : goal.returns-clause-meet
returns-clause-meet c more =
    let above : c.bound.result < c.quorum.result + c.quorum-2.result = ltb-true _ _ more in
    enough_meet c.args.liars.now c.args.a.now c.args.b.now c.quorum.ensures.valid c.quorum-2.ensures.valid
    (omega (arith, above, c.bound.ensures.value, c.quorum.ensures.value, c.quorum-2.ensures.value))
