-- Journals of which each entry is right tell fit lives.
use Rattle.xl_journals.specs.Journals.{Journal, life_in}
use Rattle.xl_journals.proofs.Journals.{right_fit}
use Rattle.xl_evidence.specs.Evidence.{IsFitLife}
use Rattle.xl_evidence.specs.Journals.{IsRightJournal, JournalsShow}
use Rattle.xl_evidence.proofs.Evidence.{forks_are_shown}

right_lives : (j : Journal) → IsRightJournal j → IsFitLife (life_in j)
right_lives j is = record { list = is.list; fit = right_fit _ j.entries is.right }

pub journals_show : JournalsShow
journals_show here there right_here right_there =
    forks_are_shown (life_in here) (life_in there) (right_lives here right_here) (right_lives there right_there)
