-- What is written of the lists of a schedule. Source: this project's own formats.
use Rattle.std.specs.Prelude.{ℕ, ◌+◌, ◌==◌, List, [], ◌∷◌, ◌++◌, Option, Some, None, if◌then◌else◌}
use Rattle.xl_lines.specs.declared.limits.Limits.{Limits}
use Rattle.xl_lines.specs.declared.limits.Returns.TheVariants.{Dropped}
use Rattle.xl_lines.specs.declared.machine.Verdict.TheVariants.{Good, Refused}
use Rattle.xl_lines.specs.Rules.{Rules, Step, goes_on, refuses as refuses_line, Told, closes}
use Rattle.xl_lines.specs.Told.{told_of}
use Rattle.xl_lines.specs.Soon.{told_soon}
use Rattle.xl_sched.specs.BadLines.{bad_line, beyond}
use Rattle.xl_sched.specs.Limits.{most_bytes, most_lines}
use Rattle.xl_sched.specs.declared.line.Line.{Line}
use Rattle.xl_sched.specs.declared.line.Line.TheVariants as line
use Rattle.xl_sched.specs.declared.refusal.SchedRefusal.TheVariants.{Header, Word}
use Rattle.xl_sched.specs.Reading.{Reading, opened}
use Rattle.xl_sched.specs.Answers.{LineAnswer, passes, gives, refuses, reading_of}
use Rattle.xl_texts.specs.Promises.{Promise, on, if_read}
use Rattle.xl_pairs.specs.declared.declared.Node.{Node}
use Rattle.xl_pairs.specs.Texts.{pair_lines}
use Rattle.xl_pairs.specs.Words.{foreign_word}

-- what was read, and the nodes and liars that are declared
pub record Comparing : Type 0 where
  pub reading : Reading
  pub nodes : List Node
  pub liars : List ℕ

-- before the first line
abbrev pub at_first : Comparing
at_first = record { reading = opened; nodes = []; liars = [] }

-- a line tells nothing; of a node and of a liar it is known from then on
abbrev pub after_line : Comparing → Reading → Line → Comparing
after_line c reading (line.Node me list validating) =
    record { reading = reading; nodes = c.nodes ++ record { me = me; list = list } ∷ []; liars = c.liars }
after_line c reading (line.Liar me) = record { reading = reading; nodes = c.nodes; liars = c.liars ++ me ∷ [] }
after_line c reading other = record { reading = reading; nodes = c.nodes; liars = c.liars }

abbrev pub after_answer : Comparing → LineAnswer → Step Comparing
after_answer c (passes reading) = goes_on [] (record { reading = reading; nodes = c.nodes; liars = c.liars })
after_answer c (gives line reading) = goes_on [] (after_line c reading line)
after_answer c (refuses refusal) = refuses_line (bad_line (c.reading.lines + 1) refusal)

-- a word that may not stand there, or the answer of the reader
abbrev pub unless_foreign : Comparing → Option (List ℕ) → List ℕ → Step Comparing
unless_foreign c (Some word) bytes = refuses_line (bad_line (c.reading.lines + 1) (Word word))
unless_foreign c None bytes = after_answer c (reading_of c.reading 0 bytes)

-- behind line 1, which must be the header, only a few words may begin a line
abbrev pub step_of : Comparing → List ℕ → Step Comparing
step_of c bytes =
    if c.reading.lines == 0 then after_answer c (reading_of c.reading 0 bytes)
    else unless_foreign c (foreign_word bytes) bytes

-- the end of a schedule: one with no line lacks its header
abbrev pub told_at_end : Comparing → Told
told_at_end c =
    if c.reading.lines == 0 then closes (bad_line 1 (Header [])) Refused else closes (pair_lines c.liars c.nodes) Good

abbrev pub rules : Rules Comparing
rules = record {
  step = λ c bytes _. step_of c bytes;
  overrun = λ c overrun. bad_line (c.reading.lines + 1) (beyond overrun);
  closing = told_at_end;
}

abbrev pub limits : Limits
limits = record { lines = most_lines; bytes = most_bytes; returns = Dropped }

-- what is written about a schedule
abbrev pub lists_of : List ℕ → Told
lists_of bytes = told_of limits rules at_first bytes

-- what is told of the lines that have ended in these bytes, and the text is empty if no node is declared
abbrev pub lists_promise : Promise
lists_promise = record { told = lists_of; soon = λ bytes. told_soon limits rules at_first bytes; reads = on; shows = if_read }
