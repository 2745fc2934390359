use Rattle.std.proofs.Common.{◌≡◌, ◌+◌, ◌++◌, ◌∙◌, [], List, drop, ap, sym, append-nil}
use Rattle.std.proofs.lemmas.List.{drop_all, take_rest}
use Rattle.xl_shown.specs.declared.course.End.{End}
use Rattle.xl_blame.specs.Networks.{mixed_in, mixed_with}
use Rattle.xl_blame.proofs.Mixing.{here, one_row}
use Rattle.xl_blame.proofs.networks.mixed_journals.Goals as goal

pub loop-place-preserved : goal.loop-place-preserved
loop-place-preserved c =
    one_row (c.loop-place.place + 1) c.keys.result.now c.index-ended-place.result (drop (c.loop-place.place + 1) c.args.ended.now)
    c.loop-place.found.items c.push_mixed_with.new.found.items _
    (c.in_ok-push_mixed_with.ensures
    ∙ ap (λ (es : List End). c.loop-place.found.items ++ mixed_with (c.loop-place.place + 1) c.keys.result.now (c.loop-place.place + 1 + 1) es)
    (take_rest c.args.ended.now (c.loop-place.place + 1)))
    (c.keys.ensures ∙ ap (λ (e : End). e.keys) (sym c.index-ended-place.is))
    (ap (λ (es : List End). c.loop-place.found.items ++ mixed_in (c.loop-place.place + 1) es)
    (sym (here c.args.ended.now c.loop-place.place c.index-ended-place.result c.loop-place-test.true c.index-ended-place.is))
    ∙ c.loop-place.invariant)

pub returns : goal.returns
returns c =
    let none : drop c.loop-place.place c.args.ended.now ≡ [] = drop_all c.loop-place.place c.args.ended.now c.loop-place-test.false in
    sym (append-nil c.loop-place.found.items)
    ∙ (ap (λ (es : List End). c.loop-place.found.items ++ mixed_in (c.loop-place.place + 1) es) (sym none)
    ∙ c.loop-place.invariant)
