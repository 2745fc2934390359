use Rattle.std.proofs.Common.{◌≡◌, true, ap, ◌∙◌, arith}
use Rattle.std.specs.Prelude.{is_some}
use Rattle.std.proofs.lemmas.Bool.Decides.{nat_tests}
use Rattle.xl_lists.specs.Lists.{is_outside}
use Rattle.xl_tags.proofs.OpeningLaws.{none_outside}
use Rattle.xl_tags.proofs.opening.another_member.Goals as goal

pub returns-in_err-member-clause-listed : goal.returns-in_err-member-clause-listed
returns-in_err-member-clause-listed c =
    let out : is_outside c.args.number ≡ true = grind (arith, nat_tests, c.in_err-member.ensures) in
    ap is_some c.from_residual.ensures
    ∙ none_outside c.args.keys.now c.args.list.now.members c.args.number c.me-me.ensures.ring c.requires out
