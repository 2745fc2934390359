-- What entries show, gathered as they are read. Source: this project's own.
use Rattle.std.specs.Prelude.{ℕ, List, [], ◌∷◌, ◌++◌}
use Rattle.std.specs.Prelude.{Some, None}
use Rattle.std.specs.declared.option.Option.{Option}
use Rattle.xl_lists.specs.Lists.{TrustedList}
use Rattle.xl_lists.specs.declared.said.SaidLedger.{SaidLedger}
use Rattle.xl_core.specs.declared.report.Report.{Report}
use Rattle.xl_forks.specs.declared.reported.Reported.{Reported}
use Rattle.xl_forks.specs.declared.said.Said.{Said}
use Rattle.xl_given.specs.Cutting.{noted_as, noted_from}
use Rattle.xl_given.specs.Given.{Noted}
use Rattle.xl_shown.specs.declared.hearing.Heard.{Heard}
use Rattle.xl_shown.specs.declared.shown.Shown.{Shown}

-- a validation that an entry of a journal shows
abbrev pub said_at : ℕ → ℕ → Option SaidLedger → List Said
said_at journal entry None = []
said_at journal entry (Some word) =
    record { seq = word.seq; member = word.member; journal = journal; entry = entry; id = word.id } ∷ []

abbrev pub heard_at : ℕ → ℕ → Option Heard → List Said
heard_at journal entry None = []
heard_at journal entry (Some heard) = said_at journal entry heard.said

-- all that it shows, the one that is heard first
abbrev pub words_at : ℕ → ℕ → Shown → List Said
words_at journal entry shown = heard_at journal entry shown.heard ++ said_at journal entry shown.issued

-- the frame that is heard in it
abbrev pub noted_at : ℕ → ℕ → List ℕ → Option Heard → List Noted
noted_at journal entry frame None = []
noted_at journal entry frame (Some heard) = noted_as heard.from journal entry frame ∷ []

-- the report that arises in it, under the list in force then
abbrev pub reported_at : ℕ → ℕ → Option Report → Option TrustedList → List Reported
reported_at journal entry (Some report) (Some list) =
    record { seq = report.seq; journal = journal; entry = entry; id = report.id; list = list } ∷ []
reported_at journal entry other no_list = []

-- what entries show: who said what, what was reported, and which frames were heard and given
pub record Gathered : Type 0 where
  pub said : List Said
  pub reported : List Reported
  pub heard : List Noted
  pub given : List Noted

-- before the first entry
abbrev pub nothing_gathered : Gathered
nothing_gathered = record { said = []; reported = []; heard = []; given = [] }

-- with what an entry of a journal shows, under the list in force then
abbrev pub with_entry : Gathered → ℕ → ℕ → Shown → Option TrustedList → Gathered
with_entry g journal entry shown list = record {
  said = g.said ++ words_at journal entry shown;
  reported = g.reported ++ reported_at journal entry shown.report list;
  heard = g.heard ++ noted_at journal entry shown.frame shown.heard;
  given = g.given ++ noted_from shown.me journal entry shown.given;
}
