use Rattle.std.proofs.Common.{ℕ, subst}
use Rattle.xl_gen.specs.Summaries.{summary}
use Rattle.xl_texts.specs.Keeps.{SaysAlone}
use Rattle.xl_top.proofs.telling.made.Goals as goal

pub returns : goal.returns
returns g c =
    subst (λ (n : ℕ). SaysAlone (summary n) (g.O.Sink.held c.args.output.now) (g.O.Sink.faults c.args.output.now) (g.O.Sink.held c.generate.new.output) (g.O.Sink.faults c.generate.new.output) c.generate.result)
    c.min.ensures c.generate.ensures.said
