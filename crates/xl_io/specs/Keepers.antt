-- What a keeper may hold over a stop, and what it was asked to save, if that is known.
-- Source: this profile, by which a stop in a save may leave the former number or the asked one.
use Rattle.std.specs.Prelude.{◌≡◌, ℕ, ◌==◌, ◌||◌, ◌⊎◌, Bool, true, false, List, [], ◌∷◌, Option, Some, None}
use Rattle.std.specs.Io.KnownBytes.{append_known}

-- the number in force, and the one that was asked by a save that failed, if any
pub record Held : Type 0 where
  pub in_force : ℕ
  pub asked : Option ℕ

-- a stop at this moment may leave this number
abbrev pub MayHold : Held → ℕ → Type 0
MayHold held n = (n ≡ held.in_force) ⊎ (held.asked ≡ Some n)

abbrev pub is_asked : Option ℕ → ℕ → Bool
is_asked None n = false
is_asked (Some s) n = s == n

-- whether it may
abbrev pub may_hold : Held → ℕ → Bool
may_hold held n = n == held.in_force || is_asked held.asked n

-- this number alone
abbrev pub holding : ℕ → Held
holding n = record { in_force = n; asked = None }

-- after a save of this number, or of none, that was answered with Ok or with Failed
abbrev pub after_save : Held → Option ℕ → Bool → Held
after_save held None ok = held
after_save held (Some s) true = holding s
after_save held (Some s) false = record { in_force = held.in_force; asked = Some s }

-- of all numbers that were asked to be saved this is the last, unless they aren't told any more
abbrev pub AddsSave : Option (List ℕ) → Option (List ℕ) → ℕ → Type 0
AddsSave old new n = (new ≡ None) ⊎ (new ≡ append_known old (n ∷ []))
