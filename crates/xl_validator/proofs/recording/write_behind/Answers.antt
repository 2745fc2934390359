use Rattle.std.proofs.Common.{◌∙◌, ap, Err}
use Rattle.xl_validator.proofs.recording.write_behind.Goals as goal

pub returns-in-Ok-clause-yes : goal.returns-in-Ok-clause-yes
returns-in-Ok-clause-yes g c with_keys _ = c.in-Ok.ensures.yes with_keys

pub returns-in-Err-Write-clause-written : goal.returns-in-Err-Write-clause-written
returns-in-Err-Write-clause-written g c =
    let is = c.in-Err-Write.is ∙ ap Err c.in-Err-Write.field-0-is in
    record { held = c.write_text.ensures.less is; failed = c.write_text.ensures.cause.write is }
