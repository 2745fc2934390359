-- What a node's call asks of its keeper. Source: this profile, by which a node saves a sequence before it says it.
use Rattle.std.specs.Prelude.{◌≡◌, ℕ, ◌≤◌, Bool, List, Option, Some, None, option_map, Result, Err}
use Rattle.xl_base.specs.Faults.{Rose}
use Rattle.xl_io.specs.Keepers.{Held, AddsSave, after_save}
use Rattle.xl_core.specs.declared.refusal.Refusal.{Refusal}
use Rattle.xl_core.specs.declared.refusal.Refusal.TheVariants.{KeepFault}

-- the numbers that were asked to be saved are the former ones and this one, or none more
abbrev pub AsksSave : Option ℕ → Option (List ℕ) → Option (List ℕ) → Type 0
AsksSave None old new = new ≡ old
AsksSave (Some s) old new = AddsSave old new s

-- a stop may leave then what a save leaves that was answered so, if the keeper tells
abbrev pub Holds : Option ℕ → Bool → Option Held → Option Held → Type 0
Holds ask kept old new = new ≡ option_map (λ held. after_save held ask kept) old

-- if the save failed, the count of faults rose, to the one that is told
abbrev pub CountsFault : {X : Type 0} → Result X Refusal → ℕ → ℕ → Type 0
CountsFault result old new = (count : ℕ) → result ≡ Err (KeepFault count) → Rose old new × (count ≡ new)

-- the keeper has saved this number, as it says of a save, or it is as it was
abbrev pub Saves : {K : Type 0} → (K → ℕ → Bool → K → Type 0) → Option ℕ → Bool → K → K → Type 0
Saves gives None kept old new = new ≡ old
Saves gives (Some s) kept old new = gives old s kept new

-- what became of a keeper, of which at most this save was asked, and answered so
pub record IsAsked {K : Type 0} (held_by : K → Option Held) (saves_of : K → Option (List ℕ)) (faults_of : K → ℕ)
    (gives : K → ℕ → Bool → K → Type 0) (asked : Option ℕ) (kept : Bool) (old new : K) : Type 0 where
  pub held : Holds asked kept (held_by old) (held_by new)
  pub saves : AsksSave asked (saves_of old) (saves_of new)
  pub keeper : Saves gives asked kept old new
  pub later : faults_of old ≤ faults_of new
