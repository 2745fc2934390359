use Rattle.std.proofs.Common.{List, ℕ, ◌++◌, ap, subst, ◌∙◌}
use Rattle.xl_io.specs.Sinks.{GrewByLess}
use Rattle.xl_show.specs.Texts.{limit_line}
use Rattle.xl_show.proofs.frames.Frames.refuse.Goals as goal

pub returns-in_err-write_all-clause-less : goal.returns-in_err-write_all-clause-less
returns-in_err-write_all-clause-less g c is =
    subst (λ bytes. GrewByLess (g.O.Sink.held c.args.output.now) (g.O.Sink.held c.write_all.new.sink) bytes) (c.as_bytes.ensures.value ∙ c.in_ok-push_limit.ensures ∙ ap (λ (xs : List ℕ). xs ++ limit_line) c.clear.ensures.bytes) c.in_err-write_all.ensures.less
