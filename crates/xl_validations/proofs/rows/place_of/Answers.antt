use Rattle.std.proofs.Common.{◌∙◌, sym, subst}
use Rattle.std.specs.Prelude.{IsSome}
use Rattle.xl_validations.proofs.Places.{place_if_row}
use Rattle.xl_validations.proofs.rows.place_of.Goals as goal

pub unwrap-requires : goal.unwrap-requires
unwrap-requires c = subst IsSome (sym c.position_of.ensures) (place_if_row c.args.member c.args.rows.now ∙ c.requires.listed)

pub returns : goal.returns
returns c = sym c.position_of.ensures ∙ c.unwrap.ensures
