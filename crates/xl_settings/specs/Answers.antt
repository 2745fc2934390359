-- What a call answers, and what it leaves. Source: what this crate promises.
use Rattle.std.specs.Prelude.{◌≡◌, ℕ, List, Result, Ok, Err}
use Rattle.std.specs.declared.option.Option.{Option}
use Rattle.std.specs.Io.KnownBytes.{IsAtEnd}
use Rattle.xl_settings.specs.declared.fault.SettingsFault.{SettingsFault}
use Rattle.xl_settings.specs.declared.fault.SettingsFault.TheVariants.{Refused, Read, OutOfMemory}
use Rattle.xl_settings.specs.declared.refusal.SettingsRefusal.{SettingsRefusal}
use Rattle.xl_settings.specs.declared.refusal.SettingsRefusal.TheVariants.{Length, Unknown}

module _ {A : Type 0} where
  -- what a call answers is this, unless memory ran out
  abbrev pub GivenMemory : Result A SettingsFault → Result A SettingsRefusal → Type 0
  GivenMemory (Ok x) exact = exact ≡ Ok x
  GivenMemory (Err (Refused refusal)) exact = exact ≡ Err refusal
  GivenMemory (Err Read) exact = ⊥
  GivenMemory (Err OutOfMemory) exact = Unit {0}

  -- what a call answers is this, unless memory ran out or a read failed
  abbrev pub GivenBytes : Result A SettingsFault → Result A SettingsRefusal → Type 0
  GivenBytes (Ok x) exact = exact ≡ Ok x
  GivenBytes (Err (Refused refusal)) exact = exact ≡ Err refusal
  GivenBytes (Err Read) exact = Unit {0}
  GivenBytes (Err OutOfMemory) exact = Unit {0}

-- what a refusal leaves of a source: nothing, but if there are too many bytes
abbrev pub LeavesNone : SettingsRefusal → Option (List ℕ) → Type 0
LeavesNone Length left = Unit {0}
LeavesNone _ left = IsAtEnd left

-- a source was read to its end, unless a read failed, memory ran out, or it had too many bytes
abbrev pub IsReadOut : {A : Type 0} → Result A SettingsFault → Option (List ℕ) → Type 0
IsReadOut (Ok x) left = IsAtEnd left
IsReadOut (Err (Refused refusal)) left = LeavesNone refusal left
IsReadOut (Err Read) left = Unit {0}
IsReadOut (Err OutOfMemory) left = Unit {0}

-- the fault refuses no bytes
abbrev pub IsNoRefusal : SettingsFault → Type 0
IsNoRefusal (Refused refusal) = ⊥
IsNoRefusal Read = Unit {0}
IsNoRefusal OutOfMemory = Unit {0}

-- the fault names this unknown key, unless memory ran out
abbrev pub NamesKey : SettingsFault → List ℕ → Type 0
NamesKey (Refused refusal) text = refusal ≡ Unknown text
NamesKey Read text = ⊥
NamesKey OutOfMemory text = Unit {0}
