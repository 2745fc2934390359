-- What the right entries of written journals show. Source: this project's own.
use Rattle.std.specs.Prelude.{All}
use Rattle.xl_lists.specs.Lists.{IsValid}
use Rattle.xl_audit.specs.Opening.{core_of}
use Rattle.xl_audit.specs.Rights.{AreRight}
use Rattle.xl_journals.specs.Journals.{Journal, life_in}
use Rattle.xl_evidence.specs.Evidence.{AreNamed, reported_in, shown_by}

-- a journal of which each entry is right, with a first list that is one
pub record IsRightJournal (j : Journal) : Type 0 where
  pub list : IsValid j.opening.list
  pub right : AreRight (core_of j.opening j.ring) j.entries

-- Of any two reports in two such journals: as many members of both lists as the quorums force are shown to have said the
-- one in the one journal and the other in the other.
abbrev pub JournalsShow : Type 0
JournalsShow =
    (here there : Journal) → IsRightJournal here → IsRightJournal there →
    All (λ r. All (AreNamed (shown_by (life_in here)) (shown_by (life_in there)) r) (reported_in (life_in there)))
    (reported_in (life_in here))
