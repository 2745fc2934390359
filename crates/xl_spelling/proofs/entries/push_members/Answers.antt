use Rattle.std.proofs.Common.{◌++◌, ◌∷◌, ◌∙◌, ap, sym, map, decimal}
use Rattle.xl_spelling.specs.Spellings.{with_commas}
use Rattle.xl_spelling.proofs.Commas.{entries-done}
use Rattle.xl_spelling.proofs.entries.push_members.Goals as goal

pub returns : goal.returns
returns c =
    entries-done (λ m. decimal m) c.in-Some.first.now c.in-Some.others.now c.loop-other.other-index c.args.room.now.items c.push_number.new.room.items c.loop-other.room.items
    (c.in_ok-push_number.ensures ∙ ap (λ n. c.args.room.now.items ++ 32 ∷ decimal n) (c.from.ensures ∙ c.get.ensures.value)) c.loop-other.invariant c.loop-other-test.false
    ∙ ap (λ ms. c.args.room.now.items ++ 32 ∷ with_commas (map (λ m. decimal m) ms)) (sym c.in-Some.ensures.cases.0)
