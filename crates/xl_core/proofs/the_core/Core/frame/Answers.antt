use Rattle.std.proofs.Common.{◌∙◌}
use Rattle.xl_core.specs.Node.{at_moment}
use Rattle.xl_core.proofs.Frames.{carried_refusal}
use Rattle.xl_core.proofs.the_core.Core.frame.Goals as goal

-- what is carried is refused by the same test
pub returns-clause-complete : goal.returns-clause-complete
returns-clause-complete g c = λ f body carried.
    c.hear.ensures.refused ∙ carried_refusal (at_moment c.args.now c.args.self.now.node) c.args.bytes.now f body carried
