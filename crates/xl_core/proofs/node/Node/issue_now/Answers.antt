use Rattle.std.proofs.Common.{◌∙◌, ap}
use Rattle.xl_core.specs.Node.{Node, issuing_reply}
use Rattle.xl_core.specs.Replies.{save_in}
use Rattle.xl_core.specs.Rest.{node_seen}
use Rattle.xl_core.proofs.Expiring.{at_its_time}
use Rattle.xl_core.proofs.node.Node.issue_now.Goals as goal

pub issue-requires : goal.issue-requires
issue-requires g c = record { moment = c.self.invariant.0.time }

pub returns-clause-exact : goal.returns-clause-exact
returns-clause-exact g c =
    c.issue.ensures.exact
    ∙ ap (λ (n : Node). issuing_reply n c.args.seq c.args.id c.args.full (save_in c.issue.result)) (at_its_time (node_seen c.self.inside) c.args.self.now c.self.view_is c.self.invariant.0)

pub returns-clause-asks : goal.returns-clause-asks
returns-clause-asks g c =
    let done = c.issue.ensures in record { held = done.held; saves = done.saves; keeper = done.keeper; later = done.later }
