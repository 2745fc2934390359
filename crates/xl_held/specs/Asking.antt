-- What a node holds that was asked something within a second, and that it didn't hold before. Source: this project's
-- own formats.
use Rattle.std.specs.Prelude.{ℕ, ◌==◌, List, [], ◌++◌}
use Rattle.xl_core.specs.Node.{Node}
use Rattle.xl_noted.specs.declared.asked.NotedIssue.{NotedIssue}
use Rattle.xl_noted.specs.Asking.{is_still}
use Rattle.xl_noted.specs.Noted.{NotedRound}
use Rattle.xl_noted.specs.Same.{is_same_number, is_same_row}
use Rattle.xl_sched.specs.declared.named.Named.{Named}
use Rattle.xl_validations.specs.Rows.{current_of}
use Rattle.xl_held.specs.Changes.{agreement_changed, proposals_changed, reports_since, round_changed, unless}
use Rattle.xl_held.specs.Lines.{issuing_line, kept_line, row_line, time_line}

-- an issue: its kept number and issuing, its own row, the last report and what is preferred
abbrev pub issue_told : List Named → ℕ → NotedIssue → Node → List ℕ
issue_told names i b n =
    unless (b.vote.time == n.time) (time_line i n.time)
    ++ unless (b.kept == n.kept) (kept_line i n.kept)
    ++ unless (is_same_number b.failed_save n.failed_save) (issuing_line i n.failed_save)
    ++ unless (is_same_row b.vote.row (current_of n.rows b.vote.member))
    (row_line names i b.vote.member (current_of n.rows b.vote.member))
    ++ reports_since names i b.vote.last b.vote.preferred n

-- of a round in which no member had a position: its own part, the positions, and how many agree
abbrev pub beaten : List Named → ℕ → NotedRound → Node → List ℕ
beaten names i b n = round_changed names i b n.round ++ proposals_changed names i [] n ++ agreement_changed i b n.round

-- a timer at such a round, which was open: that, unless it is open still on the same ledger
abbrev pub beat_told : List Named → ℕ → ℕ → ℕ → NotedRound → Node → List ℕ
beat_told names i time previous b n =
    unless (time == n.time) (time_line i n.time) ++ unless (is_still previous n.round) (beaten names i b n)
