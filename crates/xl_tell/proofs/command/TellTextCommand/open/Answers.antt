-- a schedule is read to its end, and a telling is never empty there
use Rattle.std.proofs.Common.{ap, ◌∙◌}
use Rattle.xl_lines.specs.Told.{told_of}
use Rattle.xl_lines.specs.Soon.{told_soon}
use Rattle.xl_lines.proofs.Aloud.{told_at-aloud}
use Rattle.xl_lines.proofs.ReadingOn.{told_at-reads_on}
use Rattle.xl_running.specs.Running.{Running, limits}
use Rattle.xl_tell.specs.Tellings.{rules}
use Rattle.xl_tell.proofs.Ending.{ends_aloud, finds_at_end}
use Rattle.xl_tell.proofs.command.TellTextCommand.open.Goals as goal

pub returns-clause-told : goal.returns-clause-told
returns-clause-told c = λ bytes. c.new-2.ensures.tells bytes ∙ ap (λ (r : Running). told_of limits rules r bytes) c.in_ok-narrator.ensures

pub returns-clause-soon : goal.returns-clause-soon
returns-clause-soon c = λ bytes. c.new-2.ensures.soon bytes ∙ ap (λ (r : Running). told_soon limits rules r bytes) c.in_ok-narrator.ensures

pub returns-clause-reads : goal.returns-clause-reads
returns-clause-reads c = λ lines bytes. told_at-reads_on lines.limits rules finds_at_end lines.left lines.machine.running lines.line.items bytes

pub returns-clause-shows : goal.returns-clause-shows
returns-clause-shows c = λ lines bytes. told_at-aloud lines.limits rules ends_aloud lines.left lines.machine.running lines.line.items bytes
