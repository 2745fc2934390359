-- at unmarked places nothing is kept, so once the marked ones are emptied, nothing is
use Rattle.std.proofs.Common.{◌+◌, arith, ap, refl, ◌∙◌, None, set, get_or, replicate}
use Rattle.xl_rounds.proofs.PositionLaws.{map_next, map_done}
use Rattle.xl_rounds.proofs.Skipping.{changes_skipped}
use Rattle.xl_rounds.proofs.KeptLaws.{gone, all_gone, emptied_kept, none_stands}
use Rattle.xl_rounds.proofs.kept.remove_marked.Goals as goal

pub loop-place-init : goal.loop-place-init
loop-place-init c =
    let xs = c.args.proposals.now in
    let next = c.next_marked-place in (
      next.ensures.within,
      changes_skipped gone refl xs xs 0 next.result next.ensures.later (omega (arith, next.ensures.within, c.requires.places))
          (none_stands c.args.marks xs 0 next.result c.requires next.ensures.within next.ensures.passed) refl,
      c.requires,
    )

pub loop-place-preserved : goal.loop-place-preserved
loop-place-preserved c =
    let xs = c.args.proposals.now in
    let now = c.loop-place.proposals in
    let place = c.loop-place.place in
    let next = c.next_marked-place-in-loop-place in
    let kept = emptied_kept c.args.marks now place c.loop-place-test.true c.loop-place.invariant.2 in (
      next.ensures.within,
      changes_skipped gone refl xs (set now place None) (place + 1) next.result next.ensures.later (omega (arith, next.ensures.within, c.requires.places))
          (none_stands c.args.marks (set now place None) (place + 1) next.result kept next.ensures.within next.ensures.passed)
          (ap (λ ys. set ys place (gone (get_or ys place None))) c.loop-place.invariant.1 ∙ map_next gone xs place None (omega (arith, c.loop-place-test.true, c.requires.places))),
      kept,
    )

pub returns : goal.returns
returns c =
    let xs = c.args.proposals.now in
    c.loop-place.invariant.1 ∙ map_done gone xs c.loop-place.place (omega (arith, c.loop-place-test.false, c.requires.places)) ∙ all_gone xs
    ∙ ap (λ n. replicate n None) c.requires.places
