use Rattle.std.proofs.Common.{◌∙◌, ap}
use Rattle.xl_ledger.specs.declared.header.Header.{Header}
use Rattle.xl_core.specs.declared.hearing.Speech.TheVariants as speech
use Rattle.xl_core.specs.Node.{speech_reply, speech_refusal}
use Rattle.xl_core.proofs.node.Node.learn.Goals as goal

pub returns-clause-exact : goal.returns-clause-exact
returns-clause-exact g c = λ from. c.add_header.ensures.exact from ∙ ap (λ (h : Header). speech_reply c.args.self.now from (speech.Header h)) c.read_header.ensures.exact

pub returns-clause-refused : goal.returns-clause-refused
returns-clause-refused g c = λ from. c.add_header.ensures.refused from ∙ ap (λ (h : Header). speech_refusal c.args.self.now from (speech.Header h)) c.read_header.ensures.exact
