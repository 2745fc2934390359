-- A machine that finds only behind the last line reads on to it, unless it refuses a line.
use Rattle.std.proofs.Common.{◌≡◌, ◌-◌, ◌++◌, length, ℕ, List, [], ◌∷◌, true}
use Rattle.std.specs.Prelude.{nat_lt}
use Rattle.std.proofs.lemmas.Bool.{cond_both}
use Rattle.xl_lines.specs.declared.limits.Limits.{Limits}
use Rattle.xl_lines.specs.declared.limits.Overrun.TheVariants.{LongLine, ManyLines}
use Rattle.xl_lines.specs.declared.machine.Verdict.TheVariants.{Found}
use Rattle.xl_lines.specs.Lines.{Line, lines_of, content}
use Rattle.xl_lines.specs.Rules.{Rules, Step, goes_on, refuses, finds, Told}
use Rattle.xl_lines.specs.Told.{told_from, told_by, step_at, step_within}
use Rattle.xl_lines.specs.Ends.{FindsNothing, FindsAtEnd}
use Rattle.xl_lines.specs.Running.{told_at}

module _ {S : Type 0} (limits : Limits) (rules : Rules S) (at_end : FindsAtEnd rules) where
  step_finds_nothing : (left : ℕ) (state : S) (line : Line) → FindsNothing (step_at limits rules left state line)
  step_finds_nothing left state line =
      cond_both (nat_lt limits.bytes (length line.bytes)) (refuses (rules.overrun state LongLine)) (step_within rules left state (content limits.returns line) line.ended) (FindsNothing {S = S})
      (λ _. tt)
      (λ _. cond_both (nat_lt 0 left) (rules.step state (content limits.returns line) line.ended) (refuses (rules.overrun state ManyLines)) (FindsNothing {S = S})
      (λ _. at_end.step state (content limits.returns line) line.ended) (λ _. tt))

  by_step : (then : S → Told) → ((next : S) → (then next).verdict ≡ Found → (then next).closed ≡ true) → (step : Step S) → FindsNothing step → (told_by then step).verdict ≡ Found → (told_by then step).closed ≡ true
  unfolding told_by
  by_step then still (goes_on text next) step says = still next says
  by_step then still (refuses text) step says = cc
  by_step then still (finds text) step says = absurd step

  told_reads_on : (left : ℕ) (state : S) (lines : List Line) → (told_from limits rules left state lines).verdict ≡ Found → (told_from limits rules left state lines).closed ≡ true
  told_reads_on left state [] says = at_end.closing state
  told_reads_on left state (line ∷ lines) says =
      by_step (λ next. told_from limits rules (left - 1) next lines) (λ next. told_reads_on (left - 1) next lines) (step_at limits rules left state line) (step_finds_nothing left state line) says

  pub told_at-reads_on : (left : ℕ) (state : S) (line bytes : List ℕ) → (told_at limits rules left state line bytes).verdict ≡ Found → (told_at limits rules left state line bytes).closed ≡ true
  unfolding told_at
  told_at-reads_on left state line bytes = told_reads_on left state (lines_of (line ++ bytes))
