-- What a text of `xl blame` says. Source: this project's own formats.
use Rattle.std.specs.Prelude.{◌≡◌, ◌≢◌, ℕ, ◌≤◌, ◌++◌, List, [], All, length}
use Rattle.xl_lines.specs.Lines.{Line, lines_of}
use Rattle.xl_lines.specs.Rules.{Told}
use Rattle.xl_lines.specs.declared.machine.Verdict.TheVariants.{Refused}
use Rattle.xl_lists.specs.Quorums.{Enough}
use Rattle.xl_world.specs.Lives.{NeverBehind}
use Rattle.xl_journals.specs.Journals.{Journal, lives_in}
use Rattle.xl_evidence.specs.Journals.{IsRightJournal}
use Rattle.xl_forks.specs.Equivocations.{equivocations_in}
use Rattle.xl_forks.specs.Forks.{forks_in}
use Rattle.xl_given.specs.Given.{count_given}
use Rattle.xl_shown.specs.declared.course.End.{End}
use Rattle.xl_blame.specs.Blaming.{blame_of}
use Rattle.xl_blame.specs.Gathering.{Gathered}
use Rattle.xl_blame.specs.Summary.{summary_of}
use Rattle.xl_blamed.specs.Gathering.{IsGathered, IsNamed}
use Rattle.xl_blamed.specs.Given.{WasGiven, journals_of}
use Rattle.xl_blamed.specs.Reading.{AreRead}

-- Lines are those of right journals, and the text ends with what is said of these. Of each fork at least as many members
-- are shown as both quorums force, and each name is of a member that two of the journals show to have said both ledgers.
-- Each frame that is counted as given was given in a life of its sender.
pub record IsBlamed (lines : List Line) (told : Told) : Type 0 where
  pub journals : List Journal
  pub right : All IsRightJournal journals
  pub front : List ℕ
  pub ended : List End
  pub shown : Gathered
  pub each : length ended ≡ length journals
  pub read : AreRead journals ended lines
  pub text : told.text ≡ front ++ summary_of ended shown
  pub gathered : IsGathered shown journals
  pub forks : All (λ f. f.least ≤ f.shown) (forks_in shown.said shown.reported)
  pub names : All (IsNamed journals) (equivocations_in shown.said)
  pub given : All (WasGiven journals) shown.given

-- a text in which no line is refused
abbrev pub TextsAreBlamed : Type 0
TextsAreBlamed = (bytes : List ℕ) → (blame_of bytes).verdict ≢ Refused → IsBlamed (lines_of bytes) (blame_of bytes)

-- If in such a text as many frames are given as are heard, and no node's keeper falls behind from one of its journals to
-- the next, no two reports differ whose lists are enough for each other.
abbrev pub TextsAgree : Type 0
TextsAgree =
    (bytes : List ℕ) (blamed : IsBlamed (lines_of bytes) (blame_of bytes)) →
    count_given blamed.shown.given blamed.shown.heard ≡ length blamed.shown.heard →
    ((i : ℕ) → NeverBehind 0 (lives_in (journals_of blamed.journals) i)) →
    All (λ f. ¬ (Enough [] f.one.list f.other.list)) (forks_in blamed.shown.said blamed.shown.reported)
