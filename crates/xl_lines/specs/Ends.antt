-- What reads an input to its end, unless it refuses a line. Source: this layer's promise of when all was read.
use Rattle.std.specs.Prelude.{◌≡◌, ℕ, Bool, true, List}
use Rattle.xl_lines.specs.declared.machine.Verdict.TheVariants.{Found}
use Rattle.xl_lines.specs.Rules.{Rules, Step, goes_on, refuses, finds, Told}

-- what is found is told of the whole input
abbrev pub ReadsOn : {T : Type 0} → (T → List ℕ → Told) → Type 0
ReadsOn {T} tells =
    (teller : T) (bytes : List ℕ) → (tells teller bytes).verdict ≡ Found → (tells teller bytes).closed ≡ true

-- a step by which nothing is found
abbrev pub FindsNothing : {S : Type 0} → Step S → Type 0
FindsNothing (goes_on text state) = Unit {0}
FindsNothing (refuses text) = Unit {0}
FindsNothing (finds text) = ⊥

-- a machine that finds only behind the last line
pub record FindsAtEnd {S : Type 0} (rules : Rules S) : Type 0 where
  pub step : (state : S) (line : List ℕ) (ended : Bool) → FindsNothing (rules.step state line ended)
  pub closing : (state : S) → (rules.closing state).closed ≡ true
