use Rattle.std.proofs.Common.{◌∙◌, None, sym, arith}
use Rattle.std.proofs.Math.ListN.{length-set}
use Rattle.std.proofs.lemmas.List.{get_or_default}
use Rattle.xl_publish.proofs.RegisterLaws.{copied_on, copied_all}
use Rattle.xl_publish.proofs.publishers.copies.Goals as goal

pub loop-place-preserved : goal.loop-place-preserved
loop-place-preserved c =
    let long = c.loop-place.invariant.long in
    let test = c.loop-place-test.true in
    record {
      long = length-set c.loop-place.copies c.loop-place.place c.copied.result ∙ long;
      same = copied_on c.loop-place.copies c.args.kept.now c.loop-place.place c.copied.result
          (omega (arith, long, test))
          (c.copied.ensures
          ∙ get_or_default c.args.kept.now c.loop-place.place _ None (omega (arith, c.type_inv.kept, test)))
          c.loop-place.invariant.same;
    }

pub returns : goal.returns
returns c =
    copied_all c.loop-place.copies c.args.kept.now (c.loop-place.invariant.long ∙ sym c.type_inv.kept)
    (λ i lt. c.loop-place.invariant.same i (omega (arith, lt, c.type_inv.kept, c.loop-place-test.false)))
