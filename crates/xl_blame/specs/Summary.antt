-- What `xl blame` writes behind the last journal. Source: this project's own formats.
use Rattle.std.specs.Prelude.{ℕ, ◌==◌, ◌&&◌, Bool, true, false, List, [], ◌∷◌, ◌++◌, count_by, length, option_map, if◌then◌else◌}
use Rattle.std.specs.declared.option.Option.{Option}
use Rattle.std.specs.List.{flat_map}
use Rattle.xl_lines.specs.declared.machine.Verdict.{Verdict}
use Rattle.xl_lines.specs.declared.machine.Verdict.TheVariants.{Good, Found}
use Rattle.xl_forks.specs.Equivocations.{equivocations_in}
use Rattle.xl_forks.specs.Forks.{Fork, forks_in}
use Rattle.xl_forks.specs.declared.equivocation.Equivocation.{Equivocation}
use Rattle.xl_given.specs.Given.{count_given, giver_at}
use Rattle.xl_given.specs.Kept.{giver_seen}
use Rattle.xl_given.specs.declared.givers.Giver.{Giver}
use Rattle.xl_shown.specs.declared.course.End.{End}
use Rattle.xl_shown.specs.declared.course.Judged.{Judged}
use Rattle.xl_shown.specs.declared.course.Judged.TheVariants.{Yes, No}
use Rattle.xl_blame.specs.declared.networks.Mixed.{Mixed}
use Rattle.xl_blame.specs.declared.summary.Tally.{Tally}
use Rattle.xl_blame.specs.Confessions.{named_text}
use Rattle.xl_blame.specs.Gathering.{Gathered}
use Rattle.xl_blame.specs.Networks.{mixed_in}
use Rattle.xl_blame.specs.Texts.{blame_line, clear_line, fork_line, heard_line, keys_line}

abbrev pub is_no : Judged → Bool
is_no (Yes entries) = false
is_no (No place) = true

-- an entry of the journal isn't right
abbrev pub is_wrong : End → Bool
is_wrong end = is_no end.judged

abbrev pub wrongs_in : List End → ℕ
wrongs_in ended = count_by is_wrong ended

-- there is nothing to blame
abbrev pub is_clear : ℕ → ℕ → ℕ → Bool
is_clear wrong forks twice = wrong == 0 && (forks == 0 && twice == 0)

abbrev pub last_line : ℕ → ℕ → ℕ → List ℕ
last_line wrong forks twice = if is_clear wrong forks twice then clear_line else blame_line wrong 0 forks twice

abbrev pub last_verdict : ℕ → ℕ → ℕ → Verdict
last_verdict wrong forks twice = if is_clear wrong forks twice then Good else Found

-- of journals that aren't of one network nobody is named: members of two networks may share a number
abbrev pub mixed_text : ℕ → List Mixed → Tally → List ℕ
mixed_text wrong mixed tally = flat_map keys_line mixed ++ heard_line tally ++ blame_line wrong (length mixed) 0 0

-- `named`: what is written of a member that said two ledgers
abbrev pub shown_text : ℕ → List Fork → (Equivocation → List ℕ) → List Equivocation → Tally → List ℕ
shown_text wrong forks named twice tally =
    flat_map fork_line forks ++ flat_map named twice ++ heard_line tally
    ++ last_line wrong (length forks) (length twice)

abbrev pub summary_text : ℕ → List Mixed → List Fork → (Equivocation → List ℕ) → List Equivocation → Tally → List ℕ
summary_text wrong [] forks named twice tally = shown_text wrong forks named twice tally
summary_text wrong (mixed ∷ more) forks named twice tally = mixed_text wrong (mixed ∷ more) tally

abbrev pub summary_verdict : ℕ → List Mixed → List Fork → List Equivocation → Verdict
summary_verdict wrong [] forks twice = last_verdict wrong (length forks) (length twice)
summary_verdict wrong (mixed ∷ more) forks twice = Found

-- how many frames are heard in all journals, and how many of these stand in a drain of their sender's journals
abbrev pub tally_of : Gathered → Tally
tally_of shown = record { heard = length shown.heard; given = count_given shown.given shown.heard }

-- the first entry that gave what was heard in entry e of journal k
abbrev pub giver_among : Gathered → ℕ → ℕ → Option Giver
giver_among shown k e = option_map giver_seen (giver_at shown.given shown.heard k e)

abbrev pub summary_of : List End → Gathered → List ℕ
summary_of ended shown =
    summary_text (wrongs_in ended) (mixed_in 1 ended) (forks_in shown.said shown.reported)
    (named_text ended (giver_among shown)) (equivocations_in shown.said) (tally_of shown)

abbrev pub verdict_of : List End → Gathered → Verdict
verdict_of ended shown =
    summary_verdict (wrongs_in ended) (mixed_in 1 ended) (forks_in shown.said shown.reported)
    (equivocations_in shown.said)
