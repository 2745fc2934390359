use Rattle.std.proofs.Common.{ℕ, subst}
use Rattle.std.specs.Prelude.{IfOk}
use Rattle.xl_gen.specs.Summaries.{summary}
use Rattle.xl_io.specs.Memory.{bytes_held}
use Rattle.xl_lines.specs.Running.{TellsAll}
use Rattle.xl_page.proofs.Saying.{said_whole}
use Rattle.xl_page.proofs.making.summarize.Goals as goal

pub returns : goal.returns
returns c =
    subst (λ (n : ℕ). IfOk c.generate.result (λ verdict. TellsAll (bytes_held c.args.sink.now) (bytes_held c.generate.new.output) verdict (summary n)))
    c.min.ensures (said_whole c.generate.ensures.said)
