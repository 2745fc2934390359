-- row by row the expired votes go, each beside the other rows', and the votes at that second are left
use Rattle.std.proofs.Common.{◌+◌, ◌++◌, sym, ℕ, List, take, drop, arith, Option}
use Rattle.xl_ledger.specs.declared.header.Header.{Header}
use Rattle.xl_validations.specs.declared.row.Row.{Row}
use Rattle.xl_validations.specs.Rows.{unexpired}
use Rattle.xl_validations.proofs.Turning.{next_beside, next_turned, tally_then}
use Rattle.xl_validations.specs.Votes.{ledger_named}
use Rattle.xl_validations.proofs.Splitting.{votes_by}
use Rattle.xl_validations.proofs.tally.take_back_expired.Goals as goal

abbrev turned : List Header → ℕ → Row → Option ℕ
turned ls n row = ledger_named ls (unexpired n row.current)

abbrev rule : List Header → ℕ → Row → Option ℕ
rule ls n row = ledger_named ls row.current

pub loop-row-init : goal.loop-row-init
loop-row-init g c = record { goes = c.requires.tally.goes; same = c.requires.tally.same; distinct = c.requires.tally.distinct; fits = c.requires.tally.fits; wide = c.requires.tally.wide }

pub take_back_if_expired-requires-clause-goes : goal.take_back_if_expired-requires-clause-goes
take_back_if_expired-requires-clause-goes g c = c.loop-row.invariant.goes

pub take_back_if_expired-requires-clause-beside : goal.take_back_if_expired-requires-clause-beside
take_back_if_expired-requires-clause-beside g c =
    let ls = c.args.registry.now.headers in
    let row = c.row-item.result in (
      votes_by (turned ls c.args.now) (take c.loop-row.row-index c.args.rows.now) ++ votes_by (rule ls c.args.now) (drop (c.loop-row.row-index + 1) c.args.rows.now),
      next_beside (g.B.Branch.goes_with c.loop-row.branch ls) (turned ls c.args.now) (rule ls c.args.now) c.args.rows.now c.loop-row.row-index (g.B.Branch.votes c.loop-row.branch) (g.B.Branch.room c.loop-row.branch)
          row row c.loop-row.invariant (omega (arith, c.loop-row-test.true, c.loop-row.auto.row-index-end)) (sym c.row-item.is),
    )

pub loop-row-preserved : goal.loop-row-preserved
loop-row-preserved g c =
    let ls = c.args.registry.now.headers in
    let row = c.row-item.result in
    let others = votes_by (turned ls c.args.now) (take c.loop-row.row-index c.args.rows.now) ++ votes_by (rule ls c.args.now) (drop (c.loop-row.row-index + 1) c.args.rows.now) in
    let beside = next_beside (g.B.Branch.goes_with c.loop-row.branch ls) (turned ls c.args.now) (rule ls c.args.now) c.args.rows.now c.loop-row.row-index (g.B.Branch.votes c.loop-row.branch) (g.B.Branch.room c.loop-row.branch)
    row row c.loop-row.invariant (omega (arith, c.loop-row-test.true, c.loop-row.auto.row-index-end)) (sym c.row-item.is) in
    next_turned (g.B.Branch.goes_with c.loop-row.branch ls) (turned ls c.args.now) (rule ls c.args.now) c.args.rows.now c.loop-row.row-index (g.B.Branch.votes c.loop-row.branch) (g.B.Branch.room c.loop-row.branch)
    (g.B.Branch.goes_with c.take_back_if_expired.new.branch ls) (g.B.Branch.votes c.take_back_if_expired.new.branch) (g.B.Branch.room c.take_back_if_expired.new.branch)
    row row c.loop-row.invariant (omega (arith, c.loop-row-test.true, c.loop-row.auto.row-index-end)) (sym c.row-item.is) c.take_back_if_expired.ensures.goes c.take_back_if_expired.ensures.room (c.take_back_if_expired.ensures.turned others beside)

pub returns : goal.returns
returns g c =
    record { tally = tally_then (g.B.Branch.goes_with c.loop-row.branch) c.args.registry.now.headers c.args.now c.args.rows.now c.loop-row.row-index (g.B.Branch.votes c.loop-row.branch) (g.B.Branch.room c.loop-row.branch) c.requires.tally.are c.loop-row.invariant (omega (arith, c.loop-row-test.false, c.loop-row.auto.row-index-end)) }
