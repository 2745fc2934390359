-- Two machines tell the same, if each step of the one is like the other's.
use Rattle.std.proofs.Common.{◌≡◌, ℕ, ◌-◌, Bool, true, false, List, [], ◌∷◌, length, ap, ◌∙◌}
use Rattle.std.specs.Prelude.{cond, nat_lt}
use Rattle.xl_lines.specs.declared.limits.Limits.{Limits}
use Rattle.xl_lines.specs.declared.limits.Overrun.{Overrun}
use Rattle.xl_lines.specs.declared.limits.Overrun.TheVariants.{LongLine, ManyLines}
use Rattle.xl_lines.specs.Lines.{Line, content}
use Rattle.xl_lines.specs.Rules.{Rules, Step, finds, found, goes_on, refuses, refused}
use Rattle.xl_lines.specs.Told.{after, step_at, step_within, told_by, told_from}

-- two steps tell the same, and lead to states that are alike
abbrev pub AreAlike : {S T : Type 0} → (S → T → Type 0) → Step S → Step T → Type 0
AreAlike Like (goes_on text s) (goes_on other t) = (text ≡ other) × Like s t
AreAlike Like (refuses text) (refuses other) = text ≡ other
AreAlike Like (finds text) (finds other) = text ≡ other
AreAlike Like one other = ⊥

-- machines whose states that are alike do the same
pub record DoAlike {S T : Type 0} (Like : S → T → Type 0) (a : Rules S) (b : Rules T) : Type 0 where
  pub step : (s : S) (t : T) (line : List ℕ) (ended : Bool) → Like s t → AreAlike Like (a.step s line ended) (b.step t line ended)
  pub overrun : (s : S) (t : T) (overrun : Overrun) → Like s t → a.overrun s overrun ≡ b.overrun t overrun
  pub closing : (s : S) (t : T) → Like s t → a.closing s ≡ b.closing t

module _ {S T : Type 0} (Like : S → T → Type 0) (a : Rules S) (b : Rules T) (do_alike : DoAlike Like a b) where
  step_alike : (limits : Limits) (left : ℕ) (s : S) (t : T) (line : Line) → Like s t → AreAlike Like (step_at limits a left s line) (step_at limits b left t line)
  step_alike limits left s t line like = by_length (nat_lt limits.bytes (length line.bytes))
    where
      by_count : (some : Bool) → AreAlike Like (cond some (a.step s (content limits.returns line) line.ended) (refuses (a.overrun s ManyLines))) (cond some (b.step t (content limits.returns line) line.ended) (refuses (b.overrun t ManyLines)))
      by_count true = do_alike.step s t (content limits.returns line) line.ended like
      by_count false = do_alike.overrun s t ManyLines like

      by_length : (long : Bool) →
          AreAlike Like (cond long (refuses (a.overrun s LongLine)) (step_within a left s (content limits.returns line) line.ended)) (cond long (refuses (b.overrun t LongLine)) (step_within b left t (content limits.returns line) line.ended))
      by_length true = do_alike.overrun s t LongLine like
      by_length false = by_count (nat_lt 0 left)

  pub told_alike : (limits : Limits) (left : ℕ) (s : S) (t : T) (lines : List Line) → Like s t → told_from limits a left s lines ≡ told_from limits b left t lines
  unfolding told_by
  told_alike limits left s t [] like = do_alike.closing s t like
  told_alike limits left s t (line ∷ lines) like =
      by_step (λ next other alike. told_alike limits (left - 1) next other lines alike) (step_at limits a left s line) (step_at limits b left t line) (step_alike limits left s t line like)
    where
      by_step : ((next : S) (other : T) → Like next other → told_from limits a (left - 1) next lines ≡ told_from limits b (left - 1) other lines) → (x : Step S) (y : Step T) → AreAlike Like x y →
          told_by (λ next. told_from limits a (left - 1) next lines) x ≡ told_by (λ next. told_from limits b (left - 1) next lines) y
      by_step further (goes_on text next) (goes_on front other) alike =
          ap (λ (before : List ℕ). after before (told_from limits a (left - 1) next lines)) alike.0 ∙ ap (after front) (further next other alike.1)
      by_step further (refuses text) (refuses front) alike = ap refused alike
      by_step further (finds text) (finds front) alike = ap found alike
      by_step further one other alike = absurd alike
