-- row by row votes turn from those without the newest ledger to those with it, each beside the other rows' votes
use Rattle.std.proofs.Common.{◌+◌, ◌++◌, sym, subst, ℕ, List, take, drop, arith, Option}
use Rattle.xl_ledger.specs.declared.header.Header.{Header}
use Rattle.xl_validations.specs.declared.row.Row.{Row}
use Rattle.xl_ledger.specs.Chains.{header_at}
use Rattle.xl_validations.proofs.Naming.{split}
use Rattle.xl_validations.proofs.Turning.{next_beside, next_turned, all_turned}
use Rattle.xl_validations.specs.Votes.{ledger_named}
use Rattle.xl_validations.proofs.Splitting.{votes_by}
use Rattle.xl_validations.proofs.tally.cast_for.Goals as goal

abbrev turned : List Header → ℕ → Row → Option ℕ
turned ls n row = ledger_named ls row.current

abbrev rule : List Header → ℕ → Row → Option ℕ
rule ls n row = ledger_named (take n ls) row.current

pub loop-row-init : goal.loop-row-init
loop-row-init g c = record {
  goes = subst (g.B.Branch.goes_with c.args.branch.now) (sym (split c.args.registry.now.headers c.args.ledger c.requires.newest))
      (g.met.B.Branch.grows c.args.branch.now (take c.args.ledger c.args.registry.now.headers) (header_at c.args.registry.now.headers c.args.ledger) c.requires.newest.known c.requires.tally.goes);
  same = c.requires.tally.same;
  distinct = c.requires.tally.distinct;
  fits = c.requires.tally.fits;
  wide = c.requires.tally.wide;
}

pub cast_if_for-requires-clause-goes : goal.cast_if_for-requires-clause-goes
cast_if_for-requires-clause-goes g c = c.loop-row.invariant.goes

pub cast_if_for-requires-clause-beside : goal.cast_if_for-requires-clause-beside
cast_if_for-requires-clause-beside g c =
    let ls = c.args.registry.now.headers in
    let row = c.row-item.result in (
      votes_by (turned ls c.args.ledger) (take c.loop-row.row-index c.args.rows.now) ++ votes_by (rule ls c.args.ledger) (drop (c.loop-row.row-index + 1) c.args.rows.now),
      next_beside (g.B.Branch.goes_with c.loop-row.branch ls) (turned ls c.args.ledger) (rule ls c.args.ledger) c.args.rows.now c.loop-row.row-index (g.B.Branch.votes c.loop-row.branch) (g.B.Branch.room c.loop-row.branch)
          row row c.loop-row.invariant (omega (arith, c.loop-row-test.true, c.loop-row.auto.row-index-end)) (sym c.row-item.is),
    )

pub loop-row-preserved : goal.loop-row-preserved
loop-row-preserved g c =
    let ls = c.args.registry.now.headers in
    let row = c.row-item.result in
    let others = votes_by (turned ls c.args.ledger) (take c.loop-row.row-index c.args.rows.now) ++ votes_by (rule ls c.args.ledger) (drop (c.loop-row.row-index + 1) c.args.rows.now) in
    let beside = next_beside (g.B.Branch.goes_with c.loop-row.branch ls) (turned ls c.args.ledger) (rule ls c.args.ledger) c.args.rows.now c.loop-row.row-index (g.B.Branch.votes c.loop-row.branch) (g.B.Branch.room c.loop-row.branch)
    row row c.loop-row.invariant (omega (arith, c.loop-row-test.true, c.loop-row.auto.row-index-end)) (sym c.row-item.is) in
    next_turned (g.B.Branch.goes_with c.loop-row.branch ls) (turned ls c.args.ledger) (rule ls c.args.ledger) c.args.rows.now c.loop-row.row-index (g.B.Branch.votes c.loop-row.branch) (g.B.Branch.room c.loop-row.branch)
    (g.B.Branch.goes_with c.cast_if_for.new.branch ls) (g.B.Branch.votes c.cast_if_for.new.branch) (g.B.Branch.room c.cast_if_for.new.branch)
    row row c.loop-row.invariant (omega (arith, c.loop-row-test.true, c.loop-row.auto.row-index-end)) (sym c.row-item.is) c.cast_if_for.ensures.goes c.cast_if_for.ensures.room (c.cast_if_for.ensures.turned others beside)

pub returns : goal.returns
returns g c = record {
  tally = record {
    are = c.requires.newest.are;
    goes = c.loop-row.invariant.goes;
    same = all_turned (g.B.Branch.goes_with c.loop-row.branch c.args.registry.now.headers) (turned c.args.registry.now.headers c.args.ledger) (rule c.args.registry.now.headers c.args.ledger) c.args.rows.now c.loop-row.row-index (g.B.Branch.votes c.loop-row.branch) (g.B.Branch.room c.loop-row.branch) c.loop-row.invariant (omega (arith, c.loop-row-test.false, c.loop-row.auto.row-index-end));
    distinct = c.loop-row.invariant.distinct;
    fits = c.loop-row.invariant.fits;
    wide = c.loop-row.invariant.wide;
  };
}
