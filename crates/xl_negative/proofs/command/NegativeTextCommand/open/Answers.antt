-- what is kept tells what the list tells
use Rattle.std.proofs.Common.{◌∙◌}
use Rattle.xl_lines.proofs.ReadingOn.{told_at-reads_on}
use Rattle.xl_negative.specs.Ringing.{ring_keeping}
use Rattle.xl_negative.specs.States.{state_of}
use Rattle.xl_negative.proofs.AtEnd.{finds_at_end}
use Rattle.xl_negative.proofs.Whole.{same_soon, same_told}
use Rattle.xl_negative.proofs.command.NegativeTextCommand.open.Goals as goal

pub returns-clause-told : goal.returns-clause-told
returns-clause-told c = λ bytes. c.new.ensures.tells bytes ∙ same_told (state_of c.in_ok-writer.writer) c.in_ok-writer.ensures bytes

pub returns-clause-soon : goal.returns-clause-soon
returns-clause-soon c = λ bytes. c.new.ensures.soon bytes ∙ same_soon (state_of c.in_ok-writer.writer) c.in_ok-writer.ensures bytes

pub returns-clause-reads : goal.returns-clause-reads
returns-clause-reads c = λ lines bytes. told_at-reads_on lines.limits _ (finds_at_end ring_keeping) lines.left (state_of lines.machine) lines.line.items bytes
