-- The lines of reports. Source: this project's own formats.
use Rattle.std.specs.Prelude.{ℕ, List, [], ◌∷◌, ◌++◌, decimal, codes}
use Rattle.std.specs.List.{flat_map}
use Rattle.hex.specs.Hex.{encode_lower}
use Rattle.xl_core.specs.declared.report.Report.{Report}

abbrev pub space : List ℕ
space = codes " "

abbrev pub newline : List ℕ
newline = 10 ∷ []

-- the sequence of the reported ledger, and its id as 64 lower-case digits
abbrev pub report_line : Report → List ℕ
report_line report = codes "full " ++ decimal report.seq ++ space ++ encode_lower report.id.0 ++ newline

abbrev pub report_lines : List Report → List ℕ
report_lines reports = flat_map report_line reports
