-- The lines that a report hasn't. Source: this project's own formats.
use Rattle.std.specs.Prelude.{◌≡◌, ◌||◌, ℕ, Bool, not, List, [], ◌++◌, codes, filter, if◌then◌else◌, nat_eq}
use Rattle.std.specs.List.{flat_map, starts_with}
use Rattle.xl_lines.specs.Lines.{Line, lines_of}
use Rattle.xl_lines.specs.Rules.{Told}
use Rattle.xl_replay.specs.Replays.{report_of, report_soon}
use Rattle.xl_running.specs.Texts.{newline}
use Rattle.xl_tell.specs.Tellings.{telling_of, telling_soon}

-- a line that only `tell` writes
abbrev pub is_own : List ℕ → Bool
is_own line =
    starts_with nat_eq line (codes "event ") || starts_with nat_eq line (codes "sent ") || starts_with nat_eq line (codes "held ")

-- a line as it stands in a text
abbrev pub as_it_stands : Line → List ℕ
as_it_stands line = line.bytes ++ (if line.ended then newline else [])

-- a text without such lines
abbrev pub without_own : List ℕ → List ℕ
without_own text = flat_map as_it_stands (filter (λ line. not (is_own line.bytes)) (lines_of text))

-- Without them one text is the other, and both end alike.
pub record LeavesReport (told report : Told) : Type 0 where
  pub text : without_own told.text ≡ report.text
  pub verdict : told.verdict ≡ report.verdict
  pub closed : told.closed ≡ report.closed

-- The telling of a schedule leaves its report, and what is told of some of it soon leaves what a replay then tells.
pub record TellsReport (bytes : List ℕ) : Type 0 where
  pub all : LeavesReport (telling_of bytes) (report_of bytes)
  pub soon : LeavesReport (telling_soon bytes) (report_soon bytes)
