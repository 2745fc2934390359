-- nothing is looked for, so the lines are read to their end
use Rattle.xl_lines.proofs.ReadingOn.{told_at-reads_on}
use Rattle.xl_merge.specs.Merging.{rules}
use Rattle.xl_merge.specs.States.{state_of}
use Rattle.xl_merge.proofs.AtEnd.{finds_at_end}
use Rattle.xl_merge.proofs.command.MergeTextCommand.open.Goals as goal

pub returns-clause-reads : goal.returns-clause-reads
returns-clause-reads c = λ lines bytes. told_at-reads_on lines.limits rules finds_at_end lines.left (state_of lines.machine) lines.line.items bytes
