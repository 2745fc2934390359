-- an audit says something at each of its ends
use Rattle.std.proofs.Common.{ap, ◌∙◌}
use Rattle.xl_lines.specs.Told.{told_of}
use Rattle.xl_lines.specs.Soon.{told_soon}
use Rattle.xl_lines.proofs.Aloud.{told_at-aloud}
use Rattle.xl_audit.specs.Audits.{Auditing, limits, rules}
use Rattle.xl_audit.specs.States.{state_of}
use Rattle.xl_audit.proofs.Aloud.{ends_aloud}
use Rattle.xl_audit.proofs.command.AuditTextCommand.open.Goals as goal

pub returns-clause-told : goal.returns-clause-told
returns-clause-told c = λ bytes. c.new-2.ensures.tells bytes ∙ ap (λ (a : Auditing). told_of limits rules a bytes) c.new.ensures

pub returns-clause-soon : goal.returns-clause-soon
returns-clause-soon c = λ bytes. c.new-2.ensures.soon bytes ∙ ap (λ (a : Auditing). told_soon limits rules a bytes) c.new.ensures

pub returns-clause-shows : goal.returns-clause-shows
returns-clause-shows c = λ lines bytes. told_at-aloud lines.limits rules ends_aloud lines.left (state_of lines.machine) lines.line.items bytes
