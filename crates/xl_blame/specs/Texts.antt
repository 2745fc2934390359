-- The lines that `xl blame` writes. Source: this project's own formats.
use Rattle.std.specs.Prelude.{ℕ, List, ◌++◌, decimal, codes}
use Rattle.hex.specs.Hex.{encode_lower}
use Rattle.xl_base.specs.declared.ids.LedgerId.{LedgerId}
use Rattle.xl_lists.specs.Lists.{TrustedList}
use Rattle.xl_audit.specs.Auditing.{newline}
use Rattle.xl_audit.specs.Journals.{members_text}
use Rattle.xl_audit.specs.Values.{space}
use Rattle.xl_forks.specs.Forks.{Fork}
use Rattle.xl_forks.specs.declared.equivocation.Equivocation.{Equivocation}
use Rattle.xl_forks.specs.declared.reported.Reported.{Reported}
use Rattle.xl_forks.specs.declared.said.Said.{Said}
use Rattle.xl_shown.specs.declared.course.End.{End}
use Rattle.xl_shown.specs.declared.course.Judged.{Judged}
use Rattle.xl_shown.specs.declared.course.Judged.TheVariants.{Yes, No}
use Rattle.xl_blame.specs.declared.networks.Mixed.{Mixed}
use Rattle.xl_blame.specs.declared.summary.Tally.{Tally}

-- what the auditor says of a journal
abbrev pub judged_text : Judged → List ℕ
judged_text (Yes entries) = codes "yes " ++ decimal entries
judged_text (No place) = codes "no " ++ decimal place

abbrev pub journal_line : ℕ → End → List ℕ
journal_line k end =
    codes "journal " ++ decimal k ++ space ++ decimal end.keys.me ++ space ++ judged_text end.judged ++ newline

-- two journals that have two keys where there should be one
abbrev pub keys_line : Mixed → List ℕ
keys_line mixed = codes "keys " ++ decimal mixed.one ++ space ++ decimal mixed.other ++ newline

-- a quorum, and members that are joined by commas
unfoldable pub list_text : TrustedList → List ℕ
list_text list = decimal list.quorum ++ space ++ members_text list.members

-- an entry of a journal, and the ledger that it is about
unfoldable pub place_text : ℕ → ℕ → LedgerId → List ℕ
place_text journal entry id = decimal journal ++ space ++ decimal entry ++ space ++ encode_lower id.0

-- a report, with the list in force
unfoldable pub report_text : Reported → List ℕ
report_text r = place_text r.journal r.entry r.id ++ space ++ list_text r.list

abbrev pub fork_line : Fork → List ℕ
fork_line f =
    codes "fork " ++ decimal f.one.seq ++ space ++ report_text f.one ++ space ++ report_text f.other ++ space
    ++ decimal f.least ++ space ++ decimal f.shown ++ newline

unfoldable pub said_text : Said → List ℕ
said_text x = place_text x.journal x.entry x.id

abbrev pub twice_line : Equivocation → List ℕ
twice_line e =
    codes "twice " ++ decimal e.first.seq ++ space ++ decimal e.first.member ++ space ++ said_text e.first ++ space
    ++ said_text e.other ++ newline

-- how many frames are heard, and how many of them their senders gave
abbrev pub heard_line : Tally → List ℕ
heard_line tally = codes "heard " ++ decimal tally.heard ++ codes " given " ++ decimal tally.given ++ newline

-- how many journals are wrong, how many pairs have two keys, how many reports differ, and how often a member said two
-- ledgers
abbrev pub blame_line : ℕ → ℕ → ℕ → ℕ → List ℕ
blame_line wrong mixed forks twice =
    codes "blame " ++ decimal wrong ++ space ++ decimal mixed ++ space ++ decimal forks ++ space ++ decimal twice
    ++ newline

abbrev pub clear_line : List ℕ
clear_line = codes "clear" ++ newline
