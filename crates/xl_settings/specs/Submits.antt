-- The ids to submit. Source: this project's own format.
use Rattle.std.specs.Prelude.{ℕ, ◌&&◌, nat_le, Bool, false, List, length, Option, Some, None, option_map, if◌then◌else◌}
use Rattle.std.specs.Option.{option_and_then}
use Rattle.std.specs.Result.{result_ok}
use Rattle.std.specs.Str.{bytes_eq}
use Rattle.hex.specs.Hex.{decode_sized}
use Rattle.toml.specs.Data.{Data, as_str}
use Rattle.xl_base.specs.declared.ids.TxId.{TxId}
use Rattle.xl_base.specs.Sets.{most_ids}
use Rattle.xl_settings.specs.Different.{are_different}
use Rattle.xl_settings.specs.Values.{all_read, array_in}

-- the 32 bytes that a text of 64 hexadecimal digits, of either case, writes
abbrev pub bytes_in : Data → Option (List ℕ)
bytes_in value = option_and_then (λ text. result_ok (decode_sized text 32)) (as_str value)

abbrev pub id_in : Data → Option TxId
id_in value = option_map (λ bytes. record { 0 = bytes }) (bytes_in value)

abbrev pub are_same : Option (List ℕ) → Option (List ℕ) → Bool
are_same (Some a) (Some b) = bytes_eq a b
are_same _ _ = false

-- whether two values are one text: digits of another case are another text
abbrev pub same_text : Data → Data → Bool
same_text a b = are_same (as_str a) (as_str b)

-- at most 256 different texts, and the id that each writes
abbrev pub ids_in : List Data → Option (List TxId)
ids_in values =
    if nat_le (length values) most_ids && are_different same_text values then all_read id_in values else None

abbrev pub submits_in : Data → Option (List TxId)
submits_in value = option_and_then ids_in (array_in value)
