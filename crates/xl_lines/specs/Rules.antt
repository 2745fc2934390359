-- What a machine does, as functions of what its state means. Source: state machines with an output (Mealy).
use Rattle.std.specs.Prelude.{ℕ, Bool, true, false, List}
use Rattle.xl_lines.specs.declared.limits.Overrun.{Overrun}
use Rattle.xl_lines.specs.declared.machine.Next.{Next}
use Rattle.xl_lines.specs.declared.machine.Next.TheVariants as next
use Rattle.xl_lines.specs.declared.machine.Verdict.{Verdict}
use Rattle.xl_lines.specs.declared.machine.Verdict.TheVariants.{Refused, Found}

-- a text, what it says as a whole, and whether it closes, so that no line ended it
pub record Told : Type 0 where
  pub text : List ℕ
  pub verdict : Verdict
  pub closed : Bool

-- the last text, after the last line
abbrev pub closes : List ℕ → Verdict → Told
closes text verdict = record { text = text; verdict = verdict; closed = true }

-- the last text, if a line is refused
abbrev pub refused : List ℕ → Told
refused text = record { text = text; verdict = Refused; closed = false }

-- the last text, where a line shows what is looked for
abbrev pub found : List ℕ → Told
found text = record { text = text; verdict = Found; closed = false }

-- what a state answers to a line: a text and the next state, or the last text, if it refuses the line or has found
-- what it looks for
pub data Step (S : Type 0) : Type 0 where
  goes_on : List ℕ → S → Step S
  refuses : List ℕ → Step S
  finds : List ℕ → Step S

pub record Rules (S : Type 0) : Type 0 where
  -- the answer to a line, and to whether it has ended: a last line may lack its newline
  pub step : S → List ℕ → Bool → Step S
  -- the last text if a line is too long, or one too many
  pub overrun : S → Overrun → List ℕ
  -- the last text after the last line, made by `closes`
  pub closing : S → Told

-- a step as a method gives it
abbrev pub step_given : {S : Type 0} → Next → List ℕ → S → Step S
step_given next.Line text state = goes_on text state
step_given next.Refused text state = refuses text
step_given next.Found text state = finds text
