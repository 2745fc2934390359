use Rattle.std.proofs.Common.{ap, ◌∙◌}
use Rattle.std.specs.Prelude.{is_some}
use Rattle.xl_validations.specs.Rows.{row_of}
use Rattle.xl_validations.proofs.Places.{place_if_row}
use Rattle.xl_validations.proofs.rows.Rows.has.Goals as goal

pub returns : goal.returns
returns c =
    c.is_some.ensures
    ∙ ap is_some c.position_of.ensures
    ∙ place_if_row c.args.member c.deref.result.now
    ∙ ap (λ rows. is_some (row_of rows c.args.member)) (c.deref.ensures.value ∙ c.self.view_is)
