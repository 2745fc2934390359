use Rattle.xl_validations.proofs.Tallying.{tally_opened}
use Rattle.xl_validations.proofs.table.Table.open.Goals as goal

pub returns-clause-tally : goal.returns-clause-tally
returns-clause-tally g c =
    tally_opened (g.B.Branch.goes_with c.in_ok-branch.branch) c.args.list.now c.in_ok-rows.rows (g.B.Branch.votes c.in_ok-branch.branch) (g.B.Branch.room c.in_ok-branch.branch) c.open.ensures.valid c.in_ok-rows.ensures.rows c.in_ok-branch.ensures.votes c.in_ok-branch.ensures.room c.in_ok-branch.ensures.goes
