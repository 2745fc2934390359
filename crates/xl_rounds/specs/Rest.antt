-- What the code of this crate keeps besides. No public clause cites this file.
use Rattle.std.specs.Prelude.{◌≡◌, ℕ, ◌<◌, ◌≤◌, Bool, false, List, [], ◌∷◌, length, map, count_by, slice_set, slice_index_or, Option, Some, None, is_some, if◌then◌else◌}
use Rattle.std.specs.Int.{bit_at}
use Rattle.xl_base.specs.Sets.{IsSet}
use Rattle.xl_base.specs.declared.ids.TxId.{TxId}
use Rattle.xl_base.specs.declared.ids.SetId.{SetId}
use Rattle.xl_wire.specs.declared.proposal.Proposal.{Proposal}
use Rattle.xl_closetime.specs.Resolutions.{IsResolution}
use Rattle.xl_rounds.specs.declared.setting.Setting.{Setting}
use Rattle.xl_rounds.specs.Numbers.{most_pending}
use Rattle.xl_rounds.specs.Positions.{Positions, set_named, is_old, unless_old}

-- the pending transactions are a set, and there is room for as many as may be
pub record HasRoom (pending : List TxId) (capacity : ℕ) : Type 0 where
  pub set : IsSet pending
  pub room : most_pending ≤ capacity

-- how many positions it is: one or none
abbrev pub one_if : Option Proposal → ℕ
one_if position = if is_some position then 1 else 0

-- a place for each member, and a proposal at marked places alone: the lowest bit marks the first place
pub record AreKept (marks : ℕ) (proposals : List (Option Proposal)) : Type 0 where
  pub places : length proposals ≡ 64
  pub unmarked : (i : ℕ) → i < 64 → bit_at marks i ≡ 0 → slice_index_or proposals i None ≡ None

-- a place for each member, this many positions in them, and the disputes know the sets that the positions name
pub record AreNamed (members : List (Option Proposal)) (count : ℕ) (named : List (Option SetId)) : Type 0 where
  pub places : length members ≡ 64
  pub counted : count ≡ count_by is_some members
  pub sets : named ≡ map set_named members

-- whether it is a position, and an old one
abbrev pub is_old_position : ℕ → Option Proposal → Bool
is_old_position now None = false
is_old_position now (Some p) = is_old now p

-- without the position at one place, if that is old
abbrev pub without_old_at : ℕ → ℕ → Positions → Positions
without_old_at now place a = record a {
  members = slice_set a.members place (unless_old now (slice_index_or a.members place None));
}

-- a round has a place for each member, and a resolution of the six
pub record IsSound (setting : Setting) (left : List Bool) (later : List (Option Proposal)) : Type 0 where
  pub resolution : IsResolution setting.resolution
  pub leaving : length left ≡ 64
  pub waiting : length later ≡ 64
