use Rattle.std.proofs.Common.{◌∙◌, arith, sym, List}
use Rattle.xl_given.specs.Given.{Noted}
use Rattle.xl_given.specs.Kept.{IsKept, noted_seen}
use Rattle.xl_given.proofs.Keeping.{counted}
use Rattle.xl_given.proofs.givers.count_given.Goals as goal
use Rattle.xl_given.proofs.givers.count_given.Goals.{then-is_some, else-is_some}

pub loop-place-preserved : goal.loop-place-preserved
loop-place-preserved c =
    let x : Noted = noted_seen c.at-noted.result in
    elim c.if-is_some.branch [
      | then-is_some w ↦ (
        omega (arith, w.count-is, c.loop-place.invariant.0),
        λ (given : List Noted) (kept : IsKept c.args.givers.now given).
            counted c.args.heard.now given c.loop-place.place x c.giver_of.result c.loop-place.count c.if-is_some.count c.at-noted.ensures
            (c.giver_of.ensures given kept) _ (sym w.if-is_some.true ∙ c.is_some.ensures) w.count-is (c.loop-place.invariant.1 given kept),
      )
      | else-is_some w ↦ (
        omega (arith, w.count-is, c.loop-place.invariant.0),
        λ (given : List Noted) (kept : IsKept c.args.givers.now given).
            counted c.args.heard.now given c.loop-place.place x c.giver_of.result c.loop-place.count c.if-is_some.count c.at-noted.ensures
            (c.giver_of.ensures given kept) _ (sym w.if-is_some.false ∙ c.is_some.ensures) (omega (arith, w.count-is)) (c.loop-place.invariant.1 given kept),
      )
    ]
