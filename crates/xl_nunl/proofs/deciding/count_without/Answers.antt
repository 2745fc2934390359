use Rattle.std.proofs.Common.{ℕ, Option, length, sym, ap, ◌∙◌}
use Rattle.std.specs.Prelude.{◌==◌, not}
use Rattle.std.proofs.lemmas.List.Sums.{length-filter}
use Rattle.xl_nunl.specs.Deciding.{without}
use Rattle.xl_nunl.proofs.deciding.count_without.Goals as goal

pub returns-in-Some : goal.returns-in-Some
returns-in-Some c =
    c.count_others.ensures ∙ sym (length-filter (λ (m : ℕ). not (m == c.in-Some.left)) c.args.negative.now)
    ∙ ap (λ (o : Option ℕ). length (without c.args.negative.now o)) (sym c.in-Some.is)
