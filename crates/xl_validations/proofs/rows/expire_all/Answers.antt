use Rattle.xl_validations.specs.Rows.{row_at}
use Rattle.xl_validations.proofs.Mapped.{mapped_more}
use Rattle.xl_validations.proofs.rows.expire_all.Goals as goal

pub loop-row-preserved : goal.loop-row-preserved
loop-row-preserved c =
    mapped_more (row_at c.args.now) c.args.rows.now c.loop-row.rows c.loop-row.row-index _ _ c.loop-row-test.true c.loop-row.auto.rows c.loop-row.invariant c.expire.ensures
