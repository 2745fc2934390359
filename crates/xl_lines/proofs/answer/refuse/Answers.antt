use Rattle.std.proofs.Common.{subst, ◌∙◌}
use Rattle.xl_io.specs.Sinks.{GrewByLess}
use Rattle.xl_lines.proofs.answer.refuse.Goals as goal

pub returns-in_err-write_all-clause-less : goal.returns-in_err-write_all-clause-less
returns-in_err-write_all-clause-less g c is =
    subst (λ bytes. GrewByLess (g.O.Sink.held c.args.output.now) (g.O.Sink.held c.write_all.new.sink) bytes) (c.as_bytes.ensures ∙ c.in_ok-overrun.ensures) c.in_err-write_all.ensures.less
