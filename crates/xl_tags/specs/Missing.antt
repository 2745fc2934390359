-- Listed members without a key. Source: this profile, by which a node's list may change while it runs.
use Rattle.std.specs.Prelude.{ℕ, ◌==◌, ◌&&◌, not, Bool, List, find, Option}
use Rattle.std.specs.List.{range_with_len}
use Rattle.std.specs.Option.{is_none}
use Rattle.xl_lists.specs.Lists.{is_on}
use Rattle.xl_tags.specs.Rings.{Ring, key_of}

-- whether a number is that of a listed member other than the ring's own, and has no key
abbrev pub is_missing : Ring → List ℕ → ℕ → Bool
is_missing ring members m = is_on members m && not (m == ring.me) && is_none (key_of ring m)

-- the lowest of these, if there is one
unfoldable pub lowest_missing : Ring → List ℕ → Option ℕ
lowest_missing ring members = find (is_missing ring members) (range_with_len 1 64)
