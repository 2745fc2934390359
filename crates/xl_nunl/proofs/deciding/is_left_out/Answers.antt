use Rattle.std.proofs.Common.{ℕ, Option, sym, ap, ◌∙◌}
use Rattle.xl_lists.specs.Lists.{is_on}
use Rattle.xl_nunl.specs.Deciding.{without}
use Rattle.xl_nunl.proofs.Negative.{on_without}
use Rattle.xl_nunl.proofs.deciding.is_left_out.Goals as goal

pub returns-in-Some : goal.returns-in-Some
returns-in-Some c =
    c.stands_apart.ensures ∙ sym (on_without c.in-Some.left c.args.member c.args.negative.now)
    ∙ ap (λ (o : Option ℕ). is_on (without c.args.negative.now o) c.args.member) (sym c.in-Some.is)
