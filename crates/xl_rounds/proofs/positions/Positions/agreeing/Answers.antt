use Rattle.std.proofs.Common.{ap, ◌∙◌}
use Rattle.std.specs.Prelude.{count_by}
use Rattle.xl_base.specs.Sets.{set_id_of}
use Rattle.xl_rounds.specs.Positions.{Positions, names}
use Rattle.xl_rounds.proofs.positions.Positions.agreeing.Goals as goal

pub returns-clause-value : goal.returns-clause-value
returns-clause-value c =
    c.naming.ensures.value
    ∙ ap (λ id. count_by (names id) c.self.inside.members) c.own_id.ensures
    ∙ ap (λ (a : Positions). count_by (names (set_id_of c.args.self.now.own)) a.members) c.self.view_is
