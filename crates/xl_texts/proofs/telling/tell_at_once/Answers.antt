-- a text that is written in part is a part of what is told
use Rattle.std.proofs.Common.{Err, refl, ap, ◌∙◌}
use Rattle.xl_io.specs.Memory.{bytes_held}
use Rattle.xl_texts.proofs.Keeping.{cut_kept, silent_kept}
use Rattle.xl_texts.proofs.telling.tell_at_once.Goals as goal

pub returns-in_default-clause-keeps : goal.returns-in_default-clause-keeps
returns-in_default-clause-keeps g c =
    cut_kept (bytes_held c.new-text.result) (bytes_held c.tell.new.output) c.held.result.now g.C.TextCommand.promise _ _ c.in-Ok.verdict
    c.new-text.ensures.held c.held.ensures (rw c.in-Ok.is at c.tell.ensures.whole) c.in_default.ensures.less c.in_default.ensures.failed
    (c.tell.ensures.read_exact (λ is. cc)) c.tell.ensures.further

pub returns-in-Err-Read-clause-keeps : goal.returns-in-Err-Read-clause-keeps
returns-in-Err-Read-clause-keeps g c = silent_kept g.C.TextCommand.promise _ _ refl refl (c.tell.ensures.read (c.in-Err-Read.is ∙ ap Err c.in-Err-Read.field-0-is)) (c.tell.ensures.unended (c.in-Err-Read.is ∙ ap Err c.in-Err-Read.field-0-is)) c.tell.ensures.further
