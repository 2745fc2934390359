-- each phase asks for what stands there
use Rattle.std.proofs.Common.{◌∙◌, ap, sym}
use Rattle.xl_rounds.specs.declared.heartbeat.Seen.{Seen}
use Rattle.xl_core.specs.Node.{Node, seen_of}
use Rattle.xl_core.proofs.Switching.{asks_open, asks_establish, asks_nothing}
use Rattle.xl_core.proofs.node.Node.seen.Goals as goal

pub returns-in-Open : goal.returns-in-Open
returns-in-Open g c = λ now.
    let told : Seen = record { validated = c.validated.result; finished = 0 } in
    asks_open now told (seen_of c.args.self.now) c.args.self.now.round (ap (λ (n : Node). n.round.phase) (sym c.self.view_is) ∙ sym c.phase.ensures ∙ c.in-Open.is) c.validated.ensures

pub returns-in-Establish : goal.returns-in-Establish
returns-in-Establish g c = λ now.
    let told : Seen = record { validated = 0; finished = c.finished.result } in
    asks_establish now told (seen_of c.args.self.now) c.args.self.now.round (ap (λ (n : Node). n.round.phase) (sym c.self.view_is) ∙ sym c.phase.ensures ∙ c.in-Establish.is) c.finished.ensures

pub returns-in-Accepted : goal.returns-in-Accepted
returns-in-Accepted g c = λ now.
    let told : Seen = record { validated = 0; finished = 0 } in
    asks_nothing now told (seen_of c.args.self.now) c.args.self.now.round (ap (λ (n : Node). n.round.phase) (sym c.self.view_is) ∙ sym c.phase.ensures ∙ c.in-Accepted.is)
