-- the core's step is its node's, and no frame of the node's own number is heard, so what is covered stays covered
use Rattle.std.proofs.Common.{◌≡◌, ◌≢◌, ◌∙◌, ap, sym, subst, Ok, Result}
use Rattle.std.specs.Result.{result_err}
use Rattle.xl_core.specs.declared.refusal.Refusal.{Refusal}
use Rattle.xl_core.specs.declared.taken.Heard.{Heard}
use Rattle.xl_core.specs.declared.event.CoreEvent.TheVariants as event
use Rattle.xl_core.specs.declared.hearing.Spoken.{Spoken}
use Rattle.xl_core.specs.Answers.{Refused, Took}
use Rattle.xl_core.specs.Hearing.{bytes_with, spoken_in}
use Rattle.xl_core.specs.Node.{Frame, at_moment, frame_refusal, happens}
use Rattle.xl_core.specs.Issuing.Save.{Kept}
use Rattle.xl_core.specs.Core.{Core, core_happens}
use Rattle.xl_core.specs.Replies.{Answers, hear_reply}
use Rattle.xl_core.specs.Stops.{IsCovered}
use Rattle.xl_core.proofs.Stepping.{heard_step, refused_step}
use Rattle.xl_core.proofs.Stopping.{frame_covered}
use Rattle.xl_core.proofs.the_core.Core.hear.Goals as goal

pub returns-in-Ok-clause-step : goal.returns-in-Ok-clause-step
returns-in-Ok-clause-step g c =
    let old : Core = record { node = c.self.inside.node; waiting = c.self.inside.waiting; greetings = c.self.inside.greetings; untaken = c.self.inside.untaken; stopped = c.self.inside.stopped } in
    let new : Core = record { node = c.hear.new.self; waiting = c.self.inside.waiting; greetings = c.self.inside.greetings; untaken = c.push_report.new.untaken; stopped = c.self.inside.stopped } in
    subst (λ (a : Core). Answers (core_happens a (event.Frame c.args.now (bytes_with c.args.tags a.node.keys c.args.bytes.now)) Kept) new (Took c.in-Ok.heard.taken)) c.self.view_is
    (heard_step old c.hear.new.self c.in-Ok.heard c.push_report.new.untaken (happens c.self.inside.node (Frame c.args.now (bytes_with c.args.tags c.self.inside.node.keys c.args.bytes.now)) Kept) (ap (λ (r : Result Heard Refusal). hear_reply r c.hear.new.self) (sym c.in-Ok.is) ∙ c.hear.ensures.exact) c.push_report.ensures)

pub returns-in-Ok-clause-stop : goal.returns-in-Ok-clause-stop
returns-in-Ok-clause-stop g c = λ held was.
    let others = subst (λ (a : Core). (said : Spoken) → spoken_in a.node.keys a.node.list.members (bytes_with c.args.tags a.node.keys c.args.bytes.now) ≡ Ok said → said.from ≢ a.node.me) c.self.view_is c.hear.ensures.others in
    subst (IsCovered held) (sym (returns-in-Ok-clause-step g c).core) (frame_covered held c.args.self.now c.args.now (bytes_with c.args.tags c.args.self.now.node.keys c.args.bytes.now) others was)

pub returns-in-Err-clause-step : goal.returns-in-Err-clause-step
returns-in-Err-clause-step g c =
    let old : Core = record { node = c.self.inside.node; waiting = c.self.inside.waiting; greetings = c.self.inside.greetings; untaken = c.self.inside.untaken; stopped = c.self.inside.stopped } in
    let new : Core = record { node = c.hear.new.self; waiting = c.self.inside.waiting; greetings = c.self.inside.greetings; untaken = c.self.inside.untaken; stopped = c.self.inside.stopped } in
    subst (λ (a : Core). Answers (core_happens a (event.Frame c.args.now (bytes_with c.args.tags a.node.keys c.args.bytes.now)) Kept) new (Refused c.in-Err.why)) c.self.view_is
    (refused_step old c.hear.new.self c.in-Err.why (happens c.self.inside.node (Frame c.args.now (bytes_with c.args.tags c.self.inside.node.keys c.args.bytes.now)) Kept) (ap (λ (r : Result Heard Refusal). hear_reply r c.hear.new.self) (sym c.in-Err.is) ∙ c.hear.ensures.exact))

pub returns-in-Err-clause-stop : goal.returns-in-Err-clause-stop
returns-in-Err-clause-stop g c = λ held was.
    let others = subst (λ (a : Core). (said : Spoken) → spoken_in a.node.keys a.node.list.members (bytes_with c.args.tags a.node.keys c.args.bytes.now) ≡ Ok said → said.from ≢ a.node.me) c.self.view_is c.hear.ensures.others in
    subst (IsCovered held) (sym (returns-in-Err-clause-step g c).core) (frame_covered held c.args.self.now c.args.now (bytes_with c.args.tags c.args.self.now.node.keys c.args.bytes.now) others was)

pub returns-in-Ok-clause-refused : goal.returns-in-Ok-clause-refused
returns-in-Ok-clause-refused g c = ap result_err (sym c.in-Ok.is) ∙ c.hear.ensures.refused ∙ ap (λ (a : Core). frame_refusal (at_moment c.args.now a.node) (bytes_with c.args.tags a.node.keys c.args.bytes.now)) c.self.view_is

pub returns-in-Err-clause-refused : goal.returns-in-Err-clause-refused
returns-in-Err-clause-refused g c = ap result_err (sym c.in-Err.is) ∙ c.hear.ensures.refused ∙ ap (λ (a : Core). frame_refusal (at_moment c.args.now a.node) (bytes_with c.args.tags a.node.keys c.args.bytes.now)) c.self.view_is
