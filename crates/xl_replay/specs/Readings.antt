-- How the `full` lines of a report are read. Source: this project's own formats.
use Rattle.std.specs.Prelude.{◌≡◌, ℕ, List, ◌++◌, decimal, codes, Ok, Contains}
use Rattle.xl_base.specs.Ids.{IsId}
use Rattle.xl_base.specs.declared.ids.LedgerId.{LedgerId}
use Rattle.xl_sched.specs.declared.named.Named.{Named}
use Rattle.xl_sched.specs.Names.{ledger_id_of}
use Rattle.xl_world.specs.declared.outcome.Outcome.{Outcome}
use Rattle.xl_world.specs.declared.outcome.Outcome.TheVariants.{Full}
use Rattle.xl_running.specs.Texts.{space}

-- a line that begins with `full` and a space
abbrev pub IsFullLine : List ℕ → Type 0
IsFullLine line = (rest : List ℕ) × (line ≡ codes "full " ++ rest)

-- What a line says to one who knows the names of the schedule: the node, the sequence and, by its digits or by its
-- name, the ledger.
pub record Says (names : List Named) (line : List ℕ) (node seq : ℕ) (id : LedgerId) : Type 0 where
  pub token : List ℕ
  pub is : line ≡ codes "full " ++ decimal node ++ space ++ decimal seq ++ space ++ token
  pub ledger : ledger_id_of names token ≡ Ok id

-- a line says one of these outcomes
pub record SaysOneOf (names : List Named) (outcomes : List Outcome) (line : List ℕ) : Type 0 where
  pub node : ℕ
  pub seq : ℕ
  pub id : LedgerId
  pub told : Contains outcomes (Full node seq id)
  pub says : IsId id.0 → Says names line node seq id
