-- What a machine tells about a whole list of bytes. Source: the limits of this profile, and the order in which they are
-- tested.
use Rattle.std.specs.Prelude.{ℕ, ◌-◌, nat_lt, Bool, List, [], ◌∷◌, ◌++◌, length, cond}
use Rattle.xl_lines.specs.declared.limits.Limits.{Limits}
use Rattle.xl_lines.specs.declared.limits.Overrun.TheVariants.{LongLine, ManyLines}
use Rattle.xl_lines.specs.Lines.{Line, lines_of, content}
use Rattle.xl_lines.specs.Rules.{Rules, Step, goes_on, refuses, finds, Told, refused, found}

-- a text before what is told
abbrev pub after : List ℕ → Told → Told
after text told = record { text = text ++ told.text; verdict = told.verdict; closed = told.closed }

-- what is written from a step on, if next says what is written of the state that it leads to
unfoldable pub told_by : {S : Type 0} → (S → Told) → Step S → Told
told_by next (goes_on text state) = after text (next state)
told_by next (refuses text) = refused text
told_by next (finds text) = found text

-- the machine answers to a line where left lines may come, and if none may it is one too many
abbrev pub step_within : {S : Type 0} → Rules S → ℕ → S → List ℕ → Bool → Step S
step_within rules left state line ended =
    cond (nat_lt 0 left) (rules.step state line ended) (refuses (rules.overrun state ManyLines))

-- first the line's length is tested, its return counted, and then whether it may come
abbrev pub step_at : {S : Type 0} → Limits → Rules S → ℕ → S → Line → Step S
step_at limits rules left state line =
    cond (nat_lt limits.bytes (length line.bytes))
    (refuses (rules.overrun state LongLine))
    (step_within rules left state (content limits.returns line) line.ended)

-- line by line, where left lines may come, up to the first that ends the text
abbrev pub told_from : {S : Type 0} → Limits → Rules S → ℕ → S → List Line → Told
told_from limits rules left state [] = rules.closing state
told_from limits rules left state (line ∷ lines) =
    told_by (λ next. told_from limits rules (left - 1) next lines) (step_at limits rules left state line)

-- what is written about these bytes
abbrev pub told_of : {S : Type 0} → Limits → Rules S → S → List ℕ → Told
told_of limits rules state bytes = told_from limits rules limits.lines state (lines_of bytes)
