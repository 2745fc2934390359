-- what is tallied tells what the list of all votes tells
use Rattle.std.proofs.Common.{◌∙◌}
use Rattle.xl_lines.proofs.Aloud.{told_at-aloud}
use Rattle.xl_lines.proofs.ReadingOn.{told_at-reads_on}
use Rattle.xl_voting.specs.States.{state_of}
use Rattle.xl_voting.proofs.AtEnd.{ends_aloud, finds_at_end}
use Rattle.xl_voting.proofs.Whole.{same_soon, same_told}
use Rattle.xl_voting.proofs.command.FlagsTextCommand.open.Goals as goal

pub returns-clause-told : goal.returns-clause-told
returns-clause-told c = λ bytes. c.new-2.ensures.tells bytes ∙ same_told (state_of c.in_ok-voter.voter) c.in_ok-voter.ensures bytes

pub returns-clause-soon : goal.returns-clause-soon
returns-clause-soon c = λ bytes. c.new-2.ensures.soon bytes ∙ same_soon (state_of c.in_ok-voter.voter) c.in_ok-voter.ensures bytes

pub returns-clause-reads : goal.returns-clause-reads
returns-clause-reads c = λ lines bytes. told_at-reads_on lines.limits _ finds_at_end lines.left (state_of lines.machine) lines.line.items bytes

pub returns-clause-shows : goal.returns-clause-shows
returns-clause-shows c = λ lines bytes. told_at-aloud lines.limits _ ends_aloud lines.left (state_of lines.machine) lines.line.items bytes
