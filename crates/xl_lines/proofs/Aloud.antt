-- What a machine whose last text is never empty tells is never empty.
use Rattle.std.proofs.Common.{◌<◌, ◌-◌, ◌++◌, length, length-append, arith, ℕ, List, [], ◌∷◌}
use Rattle.std.specs.Prelude.{nat_lt}
use Rattle.std.proofs.lemmas.Bool.{cond_both}
use Rattle.xl_lines.specs.declared.limits.Limits.{Limits}
use Rattle.xl_lines.specs.declared.limits.Overrun.TheVariants.{LongLine, ManyLines}
use Rattle.xl_lines.specs.Lines.{Line, lines_of, content}
use Rattle.xl_lines.specs.Rules.{Rules, Step, goes_on, refuses, finds, Told}
use Rattle.xl_lines.specs.Told.{told_from, told_by, step_at, step_within}
use Rattle.xl_lines.specs.Causes.{RefusesAloud, EndsAloud}
use Rattle.xl_lines.specs.Running.{told_at}

module _ {S : Type 0} (limits : Limits) (rules : Rules S) (aloud : EndsAloud rules) where
  step_aloud : (left : ℕ) (state : S) (line : Line) → RefusesAloud (step_at limits rules left state line)
  step_aloud left state line =
      cond_both (nat_lt limits.bytes (length line.bytes)) (refuses (rules.overrun state LongLine)) (step_within rules left state (content limits.returns line) line.ended) (RefusesAloud {S = S})
      (λ _. aloud.overrun state LongLine)
      (λ _. cond_both (nat_lt 0 left) (rules.step state (content limits.returns line) line.ended) (refuses (rules.overrun state ManyLines)) (RefusesAloud {S = S})
      (λ _. aloud.step state (content limits.returns line) line.ended) (λ _. aloud.overrun state ManyLines))

  told_aloud : (left : ℕ) (state : S) (lines : List Line) → 0 < length (told_from limits rules left state lines).text
  unfolding told_by
  told_aloud left state [] = aloud.closing state
  told_aloud left state (line ∷ lines) = by_step (λ next. told_from limits rules (left - 1) next lines) (λ next. told_aloud (left - 1) next lines) (step_at limits rules left state line) (step_aloud left state line)
    where
      by_step : (then : S → Told) → ((next : S) → 0 < length (then next).text) → (step : Step S) → RefusesAloud step → 0 < length (told_by then step).text
      by_step then still (goes_on text next) step = let more = still next in omega (arith, more, length-append text (then next).text)
      by_step then still (refuses text) step = step
      by_step then still (finds text) step = step

  pub told_at-aloud : (left : ℕ) (state : S) (line bytes : List ℕ) → 0 < length (told_at limits rules left state line bytes).text
  unfolding told_at
  told_at-aloud left state line bytes = told_aloud left state (lines_of (line ++ bytes))
