-- what is said is the summary
use Rattle.std.proofs.Common.{ap, subst, sym, ◌∙◌}
use Rattle.xl_lines.specs.Rules.{Told, closes}
use Rattle.xl_gen.specs.Summaries.{summary}
use Rattle.xl_texts.specs.Keeps.{SaysAlone}
use Rattle.xl_texts.proofs.Alone.{unsaid}
use Rattle.xl_gen.proofs.command.generate.Goals as goal

pub returns-in_default-clause-said : goal.returns-in_default-clause-said
returns-in_default-clause-said g c = unsaid (summary c.args.rounds) _ _

pub returns-clause-said : goal.returns-clause-said
returns-clause-said g c =
    subst (λ (told : Told). SaysAlone told (g.O.Sink.held c.args.output.now) (g.O.Sink.faults c.args.output.now) (g.O.Sink.held c.say.new.output) (g.O.Sink.faults c.say.new.output) c.say.result)
    (ap (λ bytes. closes bytes c.in-Ok.verdict) c.as_bytes.ensures.value ∙ c.in-Ok.ensures) c.say.ensures
