use Rattle.std.proofs.Common.{◌∙◌, ap, sym}
use Rattle.xl_wire.specs.declared.body.Body.{Body}
use Rattle.xl_core.specs.Hearing.{speech_of}
use Rattle.xl_core.specs.Node.{speech_reply, speech_refusal}
use Rattle.xl_core.proofs.node.Node.take_body.Goals as goal

pub returns-in-Header-clause-exact : goal.returns-in-Header-clause-exact
returns-in-Header-clause-exact g c =
    c.learn.ensures.exact c.args.from ∙ ap (λ (b : Body). speech_reply c.args.self.now c.args.from (speech_of b)) (sym c.in-Header.is)

pub returns-in-Header-clause-refused : goal.returns-in-Header-clause-refused
returns-in-Header-clause-refused g c =
    c.learn.ensures.refused c.args.from ∙ ap (λ (b : Body). speech_refusal c.args.self.now c.args.from (speech_of b)) (sym c.in-Header.is)

pub returns-in-Tx-clause-exact : goal.returns-in-Tx-clause-exact
returns-in-Tx-clause-exact g c = c.take_tx.ensures.exact c.args.from ∙ ap (λ (b : Body). speech_reply c.args.self.now c.args.from (speech_of b)) (sym c.in-Tx.is)

pub returns-in-Tx-clause-refused : goal.returns-in-Tx-clause-refused
returns-in-Tx-clause-refused g c = c.take_tx.ensures.refused c.args.from ∙ ap (λ (b : Body). speech_refusal c.args.self.now c.args.from (speech_of b)) (sym c.in-Tx.is)
