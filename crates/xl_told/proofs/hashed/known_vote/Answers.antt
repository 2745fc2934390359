-- the kept validation is this
use Rattle.std.proofs.Common.{◌≡◌, [], Option, ap, ◌∙◌, subst}
use Rattle.std.specs.Prelude.{IfSome}
use Rattle.xl_wire.specs.declared.validation.Validation.{Validation}
use Rattle.xl_told.specs.declared.hashed.SpelledValidation.{SpelledValidation}
use Rattle.xl_told.specs.Hashed.{IsSpelledValidation}
use Rattle.xl_told.specs.Words.{validation_text}
use Rattle.xl_told.proofs.hashed.known_vote.Goals as goal

pub returns-in-Some : goal.returns-in-Some
returns-in-Some c =
    let spelled : IsSpelledValidation c.in-Some.spelled = subst (λ (o : Option SpelledValidation). IfSome o IsSpelledValidation) c.in-Some.is c.requires in
    c.as_str.ensures.value ∙ (spelled ∙ ap (λ (v : Validation). validation_text [] v) (c.is_same_validation.ensures c.if-is_same_validation.true))
