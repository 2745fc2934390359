use Rattle.std.proofs.Common.{◌∙◌, ap}
use Rattle.xl_validations.specs.Votes.{finished}
use Rattle.xl_core.specs.Node.{Node, seen_of}
use Rattle.xl_core.specs.Rest.{node_seen}
use Rattle.xl_core.proofs.node.Node.finished.Goals as goal

pub returns : goal.returns
returns g c =
    let n : Node = node_seen c.self.inside in
    c.finished.ensures ∙ ap (finished n.ledgers.headers n.rows) c.previous.ensures
    ∙ ap (λ (m : Node). (seen_of m).finished) c.self.view_is
