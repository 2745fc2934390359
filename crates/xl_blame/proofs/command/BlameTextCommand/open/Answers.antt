-- a text says something at each of its ends, and what is to blame is found behind the last line
use Rattle.std.proofs.Common.{ap, ◌∙◌}
use Rattle.xl_lines.specs.Told.{told_of}
use Rattle.xl_lines.specs.Soon.{told_soon}
use Rattle.xl_lines.proofs.Aloud.{told_at-aloud}
use Rattle.xl_lines.proofs.ReadingOn.{told_at-reads_on}
use Rattle.xl_blame.specs.Blaming.{Blaming, limits, rules}
use Rattle.xl_blame.specs.States.{state_of}
use Rattle.xl_blame.proofs.AtEnd.{ends_aloud, finds_at_end}
use Rattle.xl_blame.proofs.command.BlameTextCommand.open.Goals as goal

pub returns-clause-told : goal.returns-clause-told
returns-clause-told c = λ bytes. c.new-2.ensures.tells bytes ∙ ap (λ (b : Blaming). told_of limits rules b bytes) c.new.ensures

pub returns-clause-soon : goal.returns-clause-soon
returns-clause-soon c = λ bytes. c.new-2.ensures.soon bytes ∙ ap (λ (b : Blaming). told_soon limits rules b bytes) c.new.ensures

pub returns-clause-reads : goal.returns-clause-reads
returns-clause-reads c = λ lines bytes. told_at-reads_on lines.limits rules finds_at_end lines.left (state_of lines.machine) lines.line.items bytes

pub returns-clause-shows : goal.returns-clause-shows
returns-clause-shows c = λ lines bytes. told_at-aloud lines.limits rules ends_aloud lines.left (state_of lines.machine) lines.line.items bytes
