use Rattle.std.proofs.Common.{◌≡◌, ◌+◌, ◌∙◌, [], List, ap, drop, sym}
use Rattle.std.proofs.lemmas.List.{drop_all}
use Rattle.xl_shown.specs.declared.course.End.{End}
use Rattle.xl_blame.specs.Confessions.{journal_from}
use Rattle.xl_blame.proofs.confessions.journal_of.Goals as goal

pub returns : goal.returns
returns c =
    let none : drop c.loop-place.place c.args.ended.now ≡ [] = drop_all c.loop-place.place c.args.ended.now c.loop-place-test.false in
    sym (c.loop-place.invariant ∙ ap (λ (es : List End). journal_from (c.loop-place.place + 1) es c.args.node) none)
