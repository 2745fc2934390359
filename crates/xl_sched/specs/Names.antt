-- Names that stand for ids, of ledgers, sets and transactions alike. Source: this project's schedule language.
use Rattle.std.specs.Prelude.{ℕ, Bool, false, ◌&&◌, ◌||◌, not, nat_le, List, [], ◌∷◌, length, find, codes, Option, None, option_map, is_some, Result, Ok, Err, if◌then◌else◌}
use Rattle.std.specs.List.{list_all}
use Rattle.std.specs.Char.{is_ascii_digit}
use Rattle.std.specs.Option.{option_or, ok_or}
use Rattle.std.specs.Result.{result_ok}
use Rattle.std.specs.Str.{bytes_eq}
use Rattle.hex.specs.Hex.{decode_sized}
use Rattle.xl_base.specs.declared.ids.LedgerId.{LedgerId}
use Rattle.xl_base.specs.declared.ids.SetId.{SetId}
use Rattle.xl_base.specs.declared.ids.TxId.{TxId}
use Rattle.xl_ledger.specs.Chains.{root_id}
use Rattle.xl_sched.specs.declared.named.Named.{Named}
use Rattle.xl_sched.specs.declared.refusal.SchedRefusal.{SchedRefusal}
use Rattle.xl_sched.specs.declared.refusal.SchedRefusal.TheVariants.{Id, Twice}
use Rattle.xl_sched.specs.Refusals.{◌>>=◌}

-- the name `root` stands for 32 zero bytes from the start
abbrev pub root : Named
root = record { name = codes "root"; id = root_id.0; header = None }

-- a to z
abbrev pub is_letter : ℕ → Bool
is_letter b = nat_le 97 b && nat_le b 122

-- 1 to 16 bytes of a to z and 0 to 9, the first a letter
abbrev pub is_name : List ℕ → Bool
is_name [] = false
is_name (first ∷ rest) =
    is_letter first && list_all (λ b. is_letter b || is_ascii_digit b) rest && nat_le (length rest) 15

-- the id that a declared name stands for
abbrev pub id_named : List Named → List ℕ → Option (List ℕ)
id_named names name = option_map (λ n. n.id) (find (λ n. bytes_eq name n.name) names)

-- the first declared name that stands for the id
abbrev pub name_of : List Named → List ℕ → Option (List ℕ)
name_of names id = option_map (λ n. n.name) (find (λ n. bytes_eq id n.id) names)

-- the id that 64 hexadecimal digits of either case write
abbrev pub id_written : List ℕ → Option (List ℕ)
id_written token = result_ok (decode_sized token 32)

-- an id, by its digits or by its name
abbrev pub id_of : List Named → List ℕ → Result (List ℕ) SchedRefusal
id_of names token = ok_or (option_or (id_written token) (id_named names token)) (Id token)

-- the same, of a ledger
abbrev pub ledger_id_of : List Named → List ℕ → Result LedgerId SchedRefusal
ledger_id_of names token = do
  id ← id_of names token
  Ok (record { 0 = id })

-- of a set of transactions
abbrev pub set_id_of : List Named → List ℕ → Result SetId SchedRefusal
set_id_of names token = do
  id ← id_of names token
  Ok (record { 0 = id })

-- and of a transaction
abbrev pub tx_id_of : List Named → List ℕ → Result TxId SchedRefusal
tx_id_of names token = do
  id ← id_of names token
  Ok (record { 0 = id })

-- a name that may still be declared
abbrev pub new_name_of : List Named → List ℕ → Result (List ℕ) SchedRefusal
new_name_of names token =
    if not (is_name token) then Err (Id token)
    else if is_some (id_named names token) then Err (Twice token)
    else Ok token
