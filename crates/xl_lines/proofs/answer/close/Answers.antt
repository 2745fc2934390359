use Rattle.std.proofs.Common.{subst, ap, ◌∙◌}
use Rattle.xl_io.specs.Sinks.{GrewByLess}
use Rattle.xl_lines.proofs.answer.close.Goals as goal

pub returns-in_err-write_all-clause-less : goal.returns-in_err-write_all-clause-less
returns-in_err-write_all-clause-less g c is =
    subst (λ bytes. GrewByLess (g.O.Sink.held c.args.output.now) (g.O.Sink.held c.write_all.new.sink) bytes) (c.as_bytes.ensures ∙ ap (λ told. told.text) c.in_ok-verdict.ensures) c.in_err-write_all.ensures.less
