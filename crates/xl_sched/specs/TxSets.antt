-- Sets of transactions, by their ids. Source: this project's schedule language.
use Rattle.std.specs.Prelude.{ℕ, Bool, true, nat_le, List, [], ◌∷◌, length, codes, Option, Some, None, Result, Ok, Err, if◌then◌else◌}
use Rattle.std.specs.Str.{bytes_eq}
use Rattle.xl_base.specs.Sets.{is_below, most_ids}
use Rattle.xl_base.specs.declared.ids.TxId.{TxId}
use Rattle.xl_sched.specs.declared.named.Named.{Named}
use Rattle.xl_sched.specs.declared.refusal.SchedRefusal.{SchedRefusal}
use Rattle.xl_sched.specs.declared.refusal.SchedRefusal.TheVariants.{Id}
use Rattle.xl_sched.specs.Refusals.{◌>>=◌}
use Rattle.xl_sched.specs.Tokens.{entries}
use Rattle.xl_sched.specs.Names.{tx_id_of}

-- whether an id rises: the first one does, and else one that is above the id before it
abbrev pub rises : Option TxId → TxId → Bool
rises None id = true
rises (Some before) id = is_below before id

-- the id of an entry, if it rises
abbrev pub risen_id_of : List Named → Option TxId → List ℕ → Result TxId SchedRefusal
risen_id_of names before entry = do
  id ← tx_id_of names entry
  if rises before id then Ok id else Err (Id entry)

-- the id of each entry, or the first entry that is none or doesn't rise
abbrev pub risen_ids_of : List Named → Option TxId → List (List ℕ) → Result (List TxId) SchedRefusal
risen_ids_of names before [] = Ok []
risen_ids_of names before (entry ∷ rest) = do
  id ← risen_id_of names before entry
  ids ← risen_ids_of names (Some id) rest
  Ok (id ∷ ids)

-- ids that are joined by single commas and rise strictly, no more than a set may have
abbrev pub joined_ids_of : List Named → List ℕ → Result (List TxId) SchedRefusal
joined_ids_of names token = do
  ids ← risen_ids_of names None (entries token)
  if nat_le (length ids) most_ids then Ok ids else Err (Id token)

-- such ids, or `-` for none
abbrev pub tx_set_of : List Named → List ℕ → Result (List TxId) SchedRefusal
tx_set_of names token = if bytes_eq token (codes "-") then Ok [] else joined_ids_of names token
