-- A set that is kept beside its id. Source: what the code of this crate keeps. No public clause cites this file.
use Rattle.std.specs.Prelude.{◌≡◌, ℕ, ◌≤◌, List, length, take}
use Rattle.xl_base.specs.Sets.{set_id_of, IsSet}
use Rattle.xl_base.specs.declared.ids.TxId.{TxId}
use Rattle.xl_base.specs.declared.ids.SetId.{SetId}
use Rattle.xl_disputes.specs.declared.hashed_sets.NamedSet.{NamedSet}

-- the ids are a set, this is its id, and there is room for every other set
pub record IsNamed (ids : List TxId) (id : SetId) (room : ℕ) : Type 0 where
  pub set : IsSet ids
  pub named : id ≡ set_id_of ids
  pub roomy : 256 ≤ room

-- the first ids of a room are a set, and this is its id
pub record IsNamedSet (set : NamedSet) : Type 0 where
  pub within : set.count ≤ length set.room
  pub named : set.id ≡ set_id_of (take set.count set.room)
