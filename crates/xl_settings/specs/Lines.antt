-- The line that tells a refusal. Source: this project's own format.
use Rattle.std.specs.Prelude.{ℕ, List, [], ◌∷◌, ◌++◌, codes}
use Rattle.xl_settings.specs.declared.refusal.SettingsRefusal.{SettingsRefusal}
use Rattle.xl_settings.specs.declared.refusal.SettingsRefusal.TheVariants.{Length, Text, Unknown, Known}
use Rattle.xl_settings.specs.Keys.{text_of}

-- what is refused: a key as it stands, or one of two words
abbrev pub refused_text : SettingsRefusal → List ℕ
refused_text Length = codes "length"
refused_text Text = codes "text"
refused_text (Unknown text) = text
refused_text (Known name) = text_of name

abbrev pub refusal_line : SettingsRefusal → List ℕ
refusal_line refusal = codes "settings " ++ refused_text refusal ++ 10 ∷ []
