use Rattle.std.proofs.Common.{◌∙◌, ap}
use Rattle.xl_core.specs.Node.{Node, seen_of}
use Rattle.xl_core.specs.Rest.{node_seen}
use Rattle.xl_core.proofs.Switching.{validated_is}
use Rattle.xl_core.proofs.node.Node.validated.Goals as goal

pub returns : goal.returns
returns g c =
    let n : Node = node_seen c.self.inside in
    validated_is n c.self.inside.table.me c.previous-previous.result c.id_at.result c.named.result c.self.invariant.2 c.previous-previous.ensures c.id_at.ensures c.named.ensures
    ∙ ap (λ (m : Node). (seen_of m).validated) c.self.view_is
