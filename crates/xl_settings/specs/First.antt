-- The first unknown key, in the order of a table. Source: what the code of this crate relies on.
use Rattle.std.specs.Prelude.{ℕ, List, Option, Some, None, if◌then◌else◌}
use Rattle.toml.specs.Data.{Members, no_members, member}
use Rattle.xl_settings.specs.Keys.{is_known}

abbrev pub first_unknown : Members → Option (List ℕ)
first_unknown no_members = None
first_unknown (member text value rest) = if is_known text then first_unknown rest else Some text
