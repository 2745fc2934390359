use Rattle.std.proofs.Common.{ℕ, List, subst, ◌∙◌}
use Rattle.xl_lines.specs.Rules.{closes}
use Rattle.xl_lines.specs.declared.machine.Verdict.TheVariants.{Good}
use Rattle.xl_texts.specs.Keeps.{SaysAlone}
use Rattle.xl_texts.proofs.Alone.{unsaid}
use Rattle.xl_words.specs.Help.{version_text}
use Rattle.xl_top.proofs.telling.version.Goals as goal

pub returns-in_default : goal.returns-in_default
returns-in_default g c = unsaid (closes version_text Good) _ _

pub returns : goal.returns
returns g c =
    subst (λ (bytes : List ℕ). SaysAlone (closes bytes Good) (g.O.Sink.held c.args.output.now) (g.O.Sink.faults c.args.output.now) (g.O.Sink.held c.say.new.output) (g.O.Sink.faults c.say.new.output) c.say.result)
    (c.as_bytes.ensures.value ∙ c.in-Ok.ensures) c.say.ensures
