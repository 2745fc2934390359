-- what the node of the number held is what is noted at the node of the part
use Rattle.std.proofs.Common.{ap, refl, ◌∙◌}
use Rattle.xl_held.specs.Changes.{changed_lines}
use Rattle.xl_noted.specs.Noted.{Noted, noted}
use Rattle.xl_tell.specs.declared.before.Before.TheVariants as before
use Rattle.xl_tell.proofs.Heard.{nobody_tells, whole_tells}
use Rattle.xl_tell.proofs.before.note_whole.Goals as goal

pub returns-in_ok-noted-in-Some : goal.returns-in_ok-noted-in-Some
returns-in_ok-noted-in-Some c =
    let number = c.args.number in
    whole_tells c.args.world.now c.args.event.now number _ (before.Whole number c.in_ok-noted-in-Some.noted) c.requires c.in-Some.ensures.core refl
    (λ names n. ap (λ (x : Noted). changed_lines names number x n) (c.in_ok-noted-in-Some.ensures ∙ ap noted c.node-in-Some.ensures.value))

pub returns-in-None : goal.returns-in-None
returns-in-None c = λ names. nobody_tells c.args.world.now c.args.event.now c.args.number c.requires c.in-None.ensures.core names
