-- The lines that `xl flags` writes. Source: this project's own formats.
use Rattle.std.specs.Prelude.{ℕ, List, ◌++◌, codes, decimal}
use Rattle.std.specs.List.{flat_map}
use Rattle.xl_base.specs.declared.ids.TxId.{TxId}
use Rattle.xl_flags.specs.declared.news.FlagLine.{FlagLine}
use Rattle.xl_flags.specs.declared.news.FlagLine.TheVariants.{Enabled, Majority, Lost, Fee}
use Rattle.xl_running.specs.Texts.{id_text, newline, space}
use Rattle.xl_sched.specs.declared.named.Named.{Named}

-- the node and the sequence of a report
abbrev pub report_text : ℕ → ℕ → List ℕ
report_text i s = decimal i ++ space ++ decimal s ++ space

-- an amendment is printed as an id of a ledger is
abbrev pub amendment_text : List Named → TxId → List ℕ
amendment_text names a = id_text names (record { 0 = a.0 })

-- what a flag report says of an amendment, or of the fee
abbrev pub flag_line : List Named → FlagLine → List ℕ
flag_line names (Enabled i s a) = codes "enabled " ++ report_text i s ++ amendment_text names a ++ newline
flag_line names (Majority i s a) = codes "majority " ++ report_text i s ++ amendment_text names a ++ newline
flag_line names (Lost i s a) = codes "lost " ++ report_text i s ++ amendment_text names a ++ newline
flag_line names (Fee i s fee) = codes "fee " ++ report_text i s ++ decimal fee ++ newline

abbrev pub flag_lines : List Named → List FlagLine → List ℕ
flag_lines names lines = flat_map (flag_line names) lines

-- the last line: how many flag reports there were
abbrev pub count_line : ℕ → List ℕ
count_line n = codes "flags " ++ decimal n ++ newline
