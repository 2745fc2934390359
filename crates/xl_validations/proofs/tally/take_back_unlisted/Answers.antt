-- row by row the votes of members off the list go, each beside the others', and the new rows' votes are left
use Rattle.std.proofs.Common.{◌+◌, ◌++◌, sym, ℕ, List, take, drop, arith, Option}
use Rattle.xl_ledger.specs.declared.header.Header.{Header}
use Rattle.xl_validations.specs.declared.row.Row.{Row}
use Rattle.xl_validations.specs.Tallies.{kept_on}
use Rattle.xl_validations.proofs.Turning.{next_beside, next_turned}
use Rattle.xl_validations.proofs.Relisting.{tally_relisted}
use Rattle.xl_validations.specs.Votes.{ledger_named}
use Rattle.xl_validations.proofs.Splitting.{votes_by}
use Rattle.xl_validations.proofs.tally.take_back_unlisted.Goals as goal

abbrev turned : List Header → List ℕ → Row → Option ℕ
turned ls members row = ledger_named ls (kept_on members row)

abbrev rule : List Header → List ℕ → Row → Option ℕ
rule ls members row = ledger_named ls row.current

pub loop-row-init : goal.loop-row-init
loop-row-init g c = record { goes = c.requires.tally.goes; same = c.requires.tally.same; distinct = c.requires.tally.distinct; fits = c.requires.tally.fits; wide = c.requires.tally.wide }

pub take_back_unless_listed-requires-clause-goes : goal.take_back_unless_listed-requires-clause-goes
take_back_unless_listed-requires-clause-goes g c = c.loop-row.invariant.goes

pub take_back_unless_listed-requires-clause-beside : goal.take_back_unless_listed-requires-clause-beside
take_back_unless_listed-requires-clause-beside g c =
    let ls = c.args.registry.now.headers in
    let row = c.row-item.result in (
      votes_by (turned ls c.args.list.now.members) (take c.loop-row.row-index c.args.rows.now) ++ votes_by (rule ls c.args.list.now.members) (drop (c.loop-row.row-index + 1) c.args.rows.now),
      next_beside (g.B.Branch.goes_with c.loop-row.branch ls) (turned ls c.args.list.now.members) (rule ls c.args.list.now.members) c.args.rows.now c.loop-row.row-index (g.B.Branch.votes c.loop-row.branch) (g.B.Branch.room c.loop-row.branch)
          row row c.loop-row.invariant (omega (arith, c.loop-row-test.true, c.loop-row.auto.row-index-end)) (sym c.row-item.is),
    )

pub loop-row-preserved : goal.loop-row-preserved
loop-row-preserved g c =
    let ls = c.args.registry.now.headers in
    let row = c.row-item.result in
    let others = votes_by (turned ls c.args.list.now.members) (take c.loop-row.row-index c.args.rows.now) ++ votes_by (rule ls c.args.list.now.members) (drop (c.loop-row.row-index + 1) c.args.rows.now) in
    let beside = next_beside (g.B.Branch.goes_with c.loop-row.branch ls) (turned ls c.args.list.now.members) (rule ls c.args.list.now.members) c.args.rows.now c.loop-row.row-index (g.B.Branch.votes c.loop-row.branch) (g.B.Branch.room c.loop-row.branch)
    row row c.loop-row.invariant (omega (arith, c.loop-row-test.true, c.loop-row.auto.row-index-end)) (sym c.row-item.is) in
    next_turned (g.B.Branch.goes_with c.loop-row.branch ls) (turned ls c.args.list.now.members) (rule ls c.args.list.now.members) c.args.rows.now c.loop-row.row-index (g.B.Branch.votes c.loop-row.branch) (g.B.Branch.room c.loop-row.branch)
    (g.B.Branch.goes_with c.take_back_unless_listed.new.branch ls) (g.B.Branch.votes c.take_back_unless_listed.new.branch) (g.B.Branch.room c.take_back_unless_listed.new.branch)
    row row c.loop-row.invariant (omega (arith, c.loop-row-test.true, c.loop-row.auto.row-index-end)) (sym c.row-item.is) c.take_back_unless_listed.ensures.goes c.take_back_unless_listed.ensures.room (c.take_back_unless_listed.ensures.turned others beside)

pub returns : goal.returns
returns g c =
    record { tally = tally_relisted (g.B.Branch.goes_with c.loop-row.branch) c.args.registry.now.headers c.args.list.now c.args.rows.now c.loop-row.row-index (g.B.Branch.votes c.loop-row.branch) (g.B.Branch.room c.loop-row.branch) c.requires.tally.are c.requires.valid c.loop-row.invariant (omega (arith, c.loop-row-test.false, c.loop-row.auto.row-index-end)) }
