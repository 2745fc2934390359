use Rattle.std.proofs.Common.{ap, sym, map, ◌∙◌}
use Rattle.xl_validations.specs.Rows.{row_at}
use Rattle.xl_validations.proofs.Expiring.{none_expired}
use Rattle.xl_validations.proofs.rows.Rows.expire.Goals as goal

pub returns-else-is_any_expired : goal.returns-else-is_any_expired
returns-else-is_any_expired c =
    let items = c.self.inside.rows.items in
    let none = none_expired c.args.now c.deref.result.now (sym c.is_any_expired.ensures ∙ c.if-is_any_expired.false) in
    sym (ap (map (row_at c.args.now)) (sym (c.deref.ensures.value ∙ c.self.view_is)) ∙ none ∙ c.deref.ensures.value ∙ c.self.view_is)
