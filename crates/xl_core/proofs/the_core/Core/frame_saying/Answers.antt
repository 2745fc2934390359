-- the core's step is its node's, which is what it makes of each frame that carries the body
use Rattle.std.proofs.Common.{◌≡◌, ◌∙◌, ℕ, List, ap, sym, subst, Ok, Err, Result}
use Rattle.xl_wire.specs.Raws.{RawFrame}
use Rattle.xl_core.specs.declared.refusal.Refusal.{Refusal}
use Rattle.xl_core.specs.declared.taken.Heard.{Heard}
use Rattle.xl_core.specs.declared.taken.Taken.{Taken}
use Rattle.xl_core.specs.Answers.{Refused, Took}
use Rattle.xl_core.specs.Hearing.{Carries, speech_of}
use Rattle.xl_core.specs.Node.{Frame, Reply, at_moment, happens, speech_reply}
use Rattle.xl_core.specs.Issuing.Save.{Kept}
use Rattle.xl_wire.specs.declared.body.Body.{Body}
use Rattle.xl_core.specs.Core.{Core, after_reply}
use Rattle.xl_core.specs.Replies.{Answers, hear_reply, taken_answer}
use Rattle.xl_core.proofs.Saying.{carried_reply}
use Rattle.xl_core.proofs.Stepping.{heard_step, refused_step}
use Rattle.xl_core.proofs.the_core.Core.frame_saying.Goals as goal

pub returns-in-Ok-clause-step : goal.returns-in-Ok-clause-step
returns-in-Ok-clause-step g c =
    let old : Core = record { node = c.self.inside.node; waiting = c.self.inside.waiting; greetings = c.self.inside.greetings; untaken = c.self.inside.untaken; stopped = c.self.inside.stopped } in
    let new : Core = record { node = c.hear_body.new.self; waiting = c.self.inside.waiting; greetings = c.self.inside.greetings; untaken = c.push_report.new.untaken; stopped = c.self.inside.stopped } in
    subst (λ (a : Core). Answers (after_reply a (speech_reply (at_moment c.args.now a.node) c.args.from (speech_of c.args.body.now))) new (Took c.in-Ok.heard.taken)) c.self.view_is
    (heard_step old c.hear_body.new.self c.in-Ok.heard c.push_report.new.untaken (speech_reply (at_moment c.args.now c.self.inside.node) c.args.from (speech_of c.args.body.now))
    (ap (λ (r : Result Heard Refusal). hear_reply r c.hear_body.new.self) (sym c.in-Ok.is) ∙ c.hear_body.ensures.exact) c.push_report.ensures)

pub returns-in-Err-clause-step : goal.returns-in-Err-clause-step
returns-in-Err-clause-step g c =
    let old : Core = record { node = c.self.inside.node; waiting = c.self.inside.waiting; greetings = c.self.inside.greetings; untaken = c.self.inside.untaken; stopped = c.self.inside.stopped } in
    let new : Core = record { node = c.hear_body.new.self; waiting = c.self.inside.waiting; greetings = c.self.inside.greetings; untaken = c.self.inside.untaken; stopped = c.self.inside.stopped } in
    subst (λ (a : Core). Answers (after_reply a (speech_reply (at_moment c.args.now a.node) c.args.from (speech_of c.args.body.now))) new (Refused c.in-Err.why)) c.self.view_is
    (refused_step old c.hear_body.new.self c.in-Err.why (speech_reply (at_moment c.args.now c.self.inside.node) c.args.from (speech_of c.args.body.now))
    (ap (λ (r : Result Heard Refusal). hear_reply r c.hear_body.new.self) (sym c.in-Err.is) ∙ c.hear_body.ensures.exact))

-- the reply to a frame that carries it
carrying : (core : Core) (now from : ℕ) (bytes : List ℕ) (f : RawFrame) (after : Core) (r : Result Taken Refusal) → (what : Body) → f.from ≡ from → Carries core.node.keys core.node.list.members bytes f what →
    Answers (after_reply core (speech_reply (at_moment now core.node) from (speech_of what))) after (taken_answer r) → Answers (after_reply core (happens core.node (Frame now bytes) Kept)) after (taken_answer r)
carrying core now from bytes f after r what its carries step =
    subst (λ (x : Reply). Answers (after_reply core x) after (taken_answer r))
    (ap (λ (m : ℕ). speech_reply (at_moment now core.node) m (speech_of what)) (sym its) ∙ carried_reply (at_moment now core.node) bytes f what carries) step

pub returns-in-Ok-clause-carried : goal.returns-in-Ok-clause-carried
returns-in-Ok-clause-carried g c = λ bytes f its carries.
    carrying c.args.self.now c.args.now c.args.from bytes f _ (Ok c.in-Ok.heard.taken) c.args.body.now its carries (returns-in-Ok-clause-step g c)

pub returns-in-Err-clause-carried : goal.returns-in-Err-clause-carried
returns-in-Err-clause-carried g c = λ bytes f its carries.
    carrying c.args.self.now c.args.now c.args.from bytes f _ (Err c.in-Err.why) c.args.body.now its carries (returns-in-Err-clause-step g c)
