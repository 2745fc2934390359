use Rattle.std.proofs.Common.{◌≡◌, ◌++◌, ◌∙◌, [], List, drop, ap, arith, sym, append-nil}
use Rattle.std.proofs.lemmas.List.{drop_all}
use Rattle.xl_tags.specs.Rings.{Ring}
use Rattle.xl_shown.specs.declared.course.End.{End}
use Rattle.xl_blame.specs.Networks.{differ, mixed_with}
use Rattle.xl_blame.proofs.Mixing.{here, one_more}
use Rattle.xl_blame.proofs.networks.push_mixed_with.Goals as goal

pub loop-end-preserved : goal.loop-end-preserved
loop-end-preserved c = record {
  found = one_more c.args.number c.args.keys.now c.loop-end.other c.end-item.result _ c.differ.result
      c.loop-end.found.items c.push_if.new.found.items _ c.in_ok-push_if.ensures
      (c.differ.ensures ∙ ap (λ (r : Ring). differ c.args.keys.now r) c.keys.ensures)
      (ap (λ (es : List End). c.loop-end.found.items ++ mixed_with c.args.number c.args.keys.now c.loop-end.other es)
      (sym (here c.args.behind.now c.loop-end.end-index c.end-item.result c.loop-end-test.true c.end-item.is))
      ∙ c.loop-end.invariant.found);
  at = omega (arith, c.loop-end.invariant.at);
}

pub returns : goal.returns
returns c =
    let none : drop c.loop-end.end-index c.args.behind.now ≡ [] = drop_all c.loop-end.end-index c.args.behind.now c.loop-end-test.false in
    sym (append-nil c.loop-end.found.items)
    ∙ (ap (λ (es : List End). c.loop-end.found.items ++ mixed_with c.args.number c.args.keys.now c.loop-end.other es) (sym none)
    ∙ c.loop-end.invariant.found)
