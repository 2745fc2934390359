-- Where the ids of a set lie. Source: what the code of this crate keeps.
use Rattle.std.specs.Prelude.{◌≡◌, ◌*◌, ◌/◌, List, length}
use Rattle.xl_base.specs.declared.ids.TxId.{TxId}
use Rattle.xl_wire.specs.declared.ids.Kept.{Kept}
use Rattle.xl_wire.specs.declared.ids.Kept.TheVariants.{Spelled, Listed}
use Rattle.xl_base.specs.Sets.{IsSet}
use Rattle.xl_wire.specs.Sets.{ids_in}

-- the ids, wherever they lie
abbrev pub kept_ids : Kept → List TxId
kept_ids (Spelled bytes) = ids_in (length bytes.now / 32) bytes.now
kept_ids (Listed ids) = ids.now

-- bytes are whole ids
abbrev pub AreWhole : Kept → Type 0
AreWhole (Spelled bytes) = length bytes.now ≡ 32 * (length bytes.now / 32)
AreWhole (Listed ids) = Unit {0}

pub record IsKept (kept : Kept) : Type 0 where
  pub set : IsSet (kept_ids kept)
  pub whole : AreWhole kept
