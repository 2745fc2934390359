-- What a source held, and what of it was read.
use Rattle.std.proofs.Common.{◌≡◌, ◌≤◌, ◌<◌, ℕ, true, false, List, Option, Some, None, Err, IfSome, refl, length, arith, nat_lt}
use Rattle.std.proofs.lemmas.Bool.Decides.{nat_tests}
use Rattle.xl_settings.specs.Answers.{GivenBytes, IsNoRefusal, IsReadOut}
use Rattle.xl_settings.specs.Settings.{settings_of}
use Rattle.xl_settings.specs.declared.fault.SettingsFault.{SettingsFault}
use Rattle.xl_settings.specs.declared.fault.SettingsFault.TheVariants.{Refused}
use Rattle.xl_settings.specs.Limits.{most_bytes}
use Rattle.xl_settings.specs.declared.refusal.SettingsRefusal.TheVariants.{Length}
use Rattle.xl_settings.specs.declared.settings.Settings.{Settings}

too_long : (bytes : List ℕ) (now : ℕ) → nat_lt most_bytes (length bytes) ≡ true → settings_of bytes now ≡ Err Length
too_long bytes now long = rw long refl

above : (n : ℕ) → nat_lt most_bytes n ≡ true → most_bytes < n
above n e = grind (arith, nat_tests)

below : (n : ℕ) → nat_lt most_bytes n ≡ false → n ≤ most_bytes
below n e = grind (arith, nat_tests)

-- a fault that refuses nothing says nothing of the bytes
pub by_fault : (old left : Option (List ℕ)) (now : ℕ) (fault : SettingsFault) → IsNoRefusal fault
    → IfSome old (λ all. GivenBytes {A = Settings} (Err fault) (settings_of all now)) × IsReadOut {A =
    Settings} (Err fault) left
by_fault old left now (Refused refusal) h = absurd h
by_fault None left now other h = (tt, tt)
by_fault (Some all) left now other h = (tt, tt)
