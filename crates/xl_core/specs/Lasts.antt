-- What may be reported after the last report. Source: the paper's fully validated ledgers, each reported once; that a
-- list may change while a node runs is this profile's.
use Rattle.std.specs.Prelude.{ℕ, ◌==◌, ◌&&◌, ◌||◌, not, nat_lt, Bool, true, false}
use Rattle.std.specs.Prelude.{Some, None}
use Rattle.std.specs.declared.option.Option.{Option}
use Rattle.xl_base.specs.Ids.{same_id}
use Rattle.xl_base.specs.declared.ids.LedgerId.{LedgerId}
use Rattle.xl_core.specs.declared.last.LastReport.{LastReport}
use Rattle.xl_core.specs.declared.report.Report.{Report}

-- nothing was reported yet
abbrev pub none_reported : LastReport
none_reported = record { report = None; relisted = false }

-- whether a sequence is above the last report's
abbrev pub is_above : Option Report → ℕ → Bool
is_above None seq = true
is_above (Some report) seq = nat_lt report.seq seq

-- whether the last report is this one
abbrev pub is_last : Option Report → ℕ → LedgerId → Bool
is_last None seq id = false
is_last (Some report) seq id = report.seq == seq && same_id report.id id

-- what is above the last report is news, and once the list was set after that so is whatever isn't that report
abbrev pub is_news : LastReport → ℕ → LedgerId → Bool
is_news last seq id = is_above last.report seq || (last.relisted && not (is_last last.report seq id))

-- once a report has arisen, or none
abbrev pub last_after : LastReport → Option Report → LastReport
last_after last None = last
last_after last (Some report) = record { report = Some report; relisted = false }

-- once the list was set
abbrev pub over_another_list : LastReport → LastReport
over_another_list last = record { report = last.report; relisted = true }
