-- What `xl merge` tells of its lines. Source: this project's own formats.
use Rattle.std.specs.Prelude.{ℕ, ◌+◌, ◌/◌, ◌==◌, nat_lt, List, [], length, decimal, Option, Some, None, Result, Ok, Err, if◌then◌else◌}
use Rattle.xl_lines.specs.declared.limits.Limits.{Limits}
use Rattle.xl_lines.specs.declared.limits.Returns.TheVariants.{Dropped}
use Rattle.xl_lines.specs.declared.machine.Verdict.TheVariants.{Good, Refused}
use Rattle.xl_lines.specs.Rules.{Rules, Step, goes_on, refuses, Told, closes}
use Rattle.xl_lines.specs.Told.{told_of}
use Rattle.xl_lines.specs.Soon.{told_soon}
use Rattle.xl_publish.specs.Forces.{list_at}
use Rattle.xl_publish.specs.Registers.{Register, no_publishers, after_key, after_roll, answer_to}
use Rattle.xl_sched.specs.BadLines.{bad_line, beyond}
use Rattle.xl_sched.specs.Limits.{most_bytes, most_lines}
use Rattle.xl_sched.specs.declared.refusal.SchedRefusal.{SchedRefusal}
use Rattle.xl_sched.specs.declared.refusal.SchedRefusal.TheVariants.{Header, LongLine, Limit}
use Rattle.xl_sched.specs.Tokens.{tokens}
use Rattle.xl_texts.specs.Promises.{Promise, on, if_read}
use Rattle.xl_merge.specs.declared.line.Line.{Line}
use Rattle.xl_merge.specs.declared.line.Line.TheVariants as line
use Rattle.xl_merge.specs.Lines.{header_line, later_line}
use Rattle.xl_merge.specs.Texts.{roll_text, list_text}

-- what is known of the lines that were read
pub record Merging : Type 0 where
  -- how many they were
  pub lines : ℕ
  -- the keys of publishers, and the kept roll of each
  pub register : Register
  -- how many publishers must name a member
  pub threshold : ℕ
  -- the moment in force, in milliseconds
  pub now : ℕ

-- before the first line
abbrev pub at_first : Merging
at_first = record { lines = 0; register = no_publishers; threshold = 1; now = 1000 }

-- a line by its tokens
abbrev pub line_of_tokens : Merging → List (List ℕ) → Result (Option Line) SchedRefusal
line_of_tokens m tokens = if m.lines == 0 then header_line tokens else later_line m.register tokens

-- a line, unless it has too many bytes or is one too many
abbrev pub bounded_line : Merging → List ℕ → Result (Option Line) SchedRefusal
bounded_line m bytes =
    if nat_lt most_bytes (length bytes) then Err (LongLine (decimal most_bytes))
    else if m.lines == most_lines then Err (Limit (decimal most_lines))
    else line_of_tokens m (tokens bytes)

abbrev pub with_line_counted : Merging → Merging
with_line_counted m = record m { lines = m.lines + 1 }

-- what is known after a line
abbrev pub after_line : Merging → Line → Merging
after_line m (line.Publisher publisher key) = record (with_line_counted m) { register = after_key m.register publisher key }
after_line m (line.Threshold threshold) = record (with_line_counted m) { threshold = threshold }
after_line m (line.Roll bytes) = record (with_line_counted m) { register = after_roll m.register bytes }
after_line m (line.At at) = record (with_line_counted m) { now = at }
after_line m line.List = with_line_counted m

-- what is written of a line
abbrev pub text_of : Merging → Line → List ℕ
text_of m (line.Roll bytes) = roll_text (m.lines + 1) (answer_to m.register bytes)
text_of m line.List = list_text (list_at m.register.kept (m.now / 1000) m.threshold)
text_of m other = []

abbrev pub step_of_line : Merging → Result (Option Line) SchedRefusal → Step Merging
step_of_line m (Ok None) = goes_on [] (with_line_counted m)
step_of_line m (Ok (Some line)) = goes_on (text_of m line) (after_line m line)
step_of_line m (Err refusal) = refuses (bad_line (m.lines + 1) refusal)

-- the answer to a line
abbrev pub step_of : Merging → List ℕ → Step Merging
step_of m bytes = step_of_line m (bounded_line m bytes)

-- the end of the lines: if there is none the header is lacking
abbrev pub told_at_end : Merging → Told
told_at_end m = if m.lines == 0 then closes (bad_line 1 (Header [])) Refused else closes [] Good

abbrev pub rules : Rules Merging
rules = record {
  step = λ m bytes _. step_of m bytes;
  overrun = λ m overrun. bad_line (m.lines + 1) (beyond overrun);
  closing = told_at_end;
}

abbrev pub limits : Limits
limits = record { lines = most_lines; bytes = most_bytes; returns = Dropped }

-- what is written of these bytes
abbrev pub merge_of : List ℕ → Told
merge_of bytes = told_of limits rules at_first bytes

-- what is told as soon as they have come
abbrev pub merge_soon : List ℕ → Told
merge_soon bytes = told_soon limits rules at_first bytes

-- its last lines may be all of the text, so none may be to come behind them
abbrev pub merge_promise : Promise
merge_promise = record { told = merge_of; soon = merge_soon; reads = on; shows = if_read }
