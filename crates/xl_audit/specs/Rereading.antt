-- What is written of a legal history is read back, and gets yes. Source: this project's own formats.
use Rattle.std.specs.Prelude.{◌≡◌, ◌+◌, ◌<◌, ◌≤◌, ◌^◌, ℕ, List, length, All}
use Rattle.xl_base.specs.Moments.{greatest_millis}
use Rattle.xl_ledger.specs.Limits.{greatest_limit, least_limit}
use Rattle.xl_lines.specs.declared.machine.Verdict.TheVariants.{Good}
use Rattle.xl_lines.specs.Lines.{lines_of}
use Rattle.xl_lines.specs.Rules.{closes}
use Rattle.xl_turns.specs.Histories.{IsLegal}
use Rattle.xl_core.specs.Rest.{IsKeyed}
use Rattle.xl_core.specs.declared.settings.Settings.{Settings}
use Rattle.xl_store.specs.declared.entry.Entry.{Entry}
use Rattle.xl_store.specs.Entries.{Leads}
use Rattle.xl_audit.specs.Limits.{most_bytes, most_lines}
use Rattle.xl_audit.specs.Auditing.{yes_line}
use Rattle.xl_audit.specs.Audits.{audit_of}
use Rattle.xl_audit.specs.Journals.{journal_text, start_of}
use Rattle.xl_audit.specs.Stored.{AreStored, IsStored}

-- a text with no longer lines than an auditor takes
abbrev pub HasShortLines : List ℕ → Type 0
HasShortLines text = All (λ line. length line.bytes ≤ most_bytes) (lines_of text)

-- `audit` says yes to a text, and that it has so many entries, if there is room for them behind the 66 lines of a head
abbrev pub SaysYes : List ℕ → ℕ → Type 0
SaysYes text entries =
    entries + 66 ≤ most_lines → HasShortLines text → audit_of text ≡ closes (yes_line entries) Good

-- the text of a history gets a yes that counts its entries
abbrev pub GetsYes : Settings → ℕ → ℕ → List Entry → Type 0
GetsYes settings now kept es = SaysYes (journal_text settings now kept es) (length es)

-- a core may be opened so, and its settings can be written
pub record MayBeWritten (settings : Settings) (opened loaded : ℕ) : Type 0 where
  pub stored : AreStored settings
  pub keyed : IsKeyed settings.me settings.list.members settings.keys
  pub least : least_limit ≤ settings.limit
  pub most : settings.limit ≤ greatest_limit
  pub speak : (1 ≤ settings.speak) × (settings.speak ≤ 2)
  pub moment : opened ≤ greatest_millis
  pub number : loaded < 2 ^ 32

-- so does the text of each legal history of such a core
abbrev pub WrittenGetsYes : Type 0
WrittenGetsYes =
    (settings : Settings) (now kept : ℕ) (es : List Entry) →
    MayBeWritten settings now kept → All IsStored es → IsLegal Leads (start_of settings now kept) es →
    GetsYes settings now kept es
