-- What the bytes hold, step by step.
use Rattle.std.proofs.Common.{◌≡◌, ◌≤◌, ℕ, Bool, true, false, List, Option, Some, None, Result, refl, sym, ap, subst, length, arith, nat_lt}
use Rattle.std.proofs.lemmas.Bool.Decides.{nat_tests}
use Rattle.std.proofs.lemmas.Str.{is_utf8-from_IsUtf8, IsUtf8-from_is_utf8}
use Rattle.std.specs.Str.{is_utf8, IsUtf8}
use Rattle.toml.specs.Data.{Members}
use Rattle.toml.specs.Parse.{parse_document}
use Rattle.xl_settings.specs.Answers.{GivenMemory}
use Rattle.xl_settings.specs.Settings.{document_of, in_document, settings_of}
use Rattle.xl_settings.specs.declared.fault.SettingsFault.{SettingsFault}
use Rattle.xl_settings.specs.Limits.{most_bytes}
use Rattle.xl_settings.specs.declared.refusal.SettingsRefusal.{SettingsRefusal}
use Rattle.xl_settings.specs.declared.settings.Settings.{Settings}

pub is_short : (n : ℕ) → n ≤ most_bytes → nat_lt most_bytes n ≡ false
is_short n small = grind (arith, nat_tests)

pub a_document : (bytes : List ℕ) (table : Members) → IsUtf8 bytes → parse_document bytes ≡ Some table
    → document_of bytes ≡ Some table
a_document bytes table valid is = rw (is_utf8-from_IsUtf8 bytes valid) is

pub no_document : (bytes : List ℕ) → (IsUtf8 bytes → parse_document bytes ≡ None) → document_of bytes ≡ None
no_document bytes none = go (is_utf8 bytes) refl
  where
    go : (b : Bool) → is_utf8 bytes ≡ b → document_of bytes ≡ None
    go true e = rw e (none (IsUtf8-from_is_utf8 bytes e))
    go false e = rw e refl

pub within : (bytes : List ℕ) (now : ℕ) (found : Option Members) → length bytes ≤ most_bytes
    → document_of bytes ≡ found → settings_of bytes now ≡ in_document found now
within bytes now found small is =
    rw (is_short (length bytes) small) (ap (λ (document : Option Members). in_document document now) is)

pub given_as : (a b : Result Settings SettingsRefusal) (result : Result Settings SettingsFault) → a ≡ b
    → GivenMemory result b → GivenMemory result a
given_as a b result same h = subst (λ (x : Result Settings SettingsRefusal). GivenMemory result x) (sym same) h
