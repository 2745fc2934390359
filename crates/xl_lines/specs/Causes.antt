-- When a run answers which fault. Source: this layer's promise that no fault is invented.
use Rattle.std.specs.Prelude.{◌≡◌, ℕ, ◌<◌, ◌≤◌, Bool, List, length, Result, IsErrOf}
use Rattle.xl_base.specs.Faults.{Rose}
use Rattle.xl_lines.specs.declared.fault.Fault.{Fault}
use Rattle.xl_lines.specs.declared.fault.Fault.TheVariants.{Read, Write}
use Rattle.xl_lines.specs.declared.limits.Overrun.{Overrun}
use Rattle.xl_lines.specs.Rules.{Rules, Step, goes_on, refuses, finds, Told}

-- the count of a sink has risen if a write fault is answered, and else it is as before; no read fault is answered
pub record HasCause {T : Type 0} (before now : ℕ) (result : Result T Fault) : Type 0 where
  pub later : before ≤ now
  pub write : IsErrOf result Write → Rose before now
  pub exact : ¬ (IsErrOf result Write) → now ≡ before
  pub read : IsErrOf result Read → ⊥

-- whatever is still to come, something is written
abbrev pub IsAloud : {T : Type 0} → (T → List ℕ → Told) → Type 0
IsAloud {T} tells = (teller : T) (bytes : List ℕ) → 0 < length (tells teller bytes).text

-- where a step ends the text, it has one itself
abbrev pub RefusesAloud : {S : Type 0} → Step S → Type 0
RefusesAloud (goes_on text state) = Unit {0}
RefusesAloud (refuses text) = 0 < length text
RefusesAloud (finds text) = 0 < length text

-- a machine whose last text is never empty
pub record EndsAloud {S : Type 0} (rules : Rules S) : Type 0 where
  pub step : (state : S) (line : List ℕ) (ended : Bool) → RefusesAloud (rules.step state line ended)
  pub overrun : (state : S) (overrun : Overrun) → 0 < length (rules.overrun state overrun)
  pub closing : (state : S) → 0 < length (rules.closing state).text
