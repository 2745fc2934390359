-- Several passes as one. Source: what the code of this crate relies on. No public clause cites this file.
use Rattle.std.specs.Prelude.{List, [], ◌∷◌}
use mathlib.Core.List.{IsPrefix}
use Rattle.xl_turns.specs.declared.view.Knowledge.{Knowledge}
use Rattle.xl_turns.specs.Knowing.{joined}
use Rattle.xl_turns.specs.Passes.{known}
use Rattle.xl_store.specs.declared.entry.Entry.{Entry}
use Rattle.xl_store.specs.declared.store.Store.{Store}
use Rattle.xl_store.specs.Stores.{IsOf}
use Rattle.xl_workers.specs.declared.worker.Worker.{Worker}

-- one after the other
abbrev pub joined_all : Knowledge Entry → List (Knowledge Entry) → Knowledge Entry
joined_all k [] = k
joined_all k (x ∷ xs) = joined_all (joined k x) xs

module _ {L : Type 0} where
  abbrev pub knows : Worker L → Knowledge Entry
  knows worker = known worker.pass

  -- what the worker's pass has seen begins the list
  abbrev pub HasSeen : List Entry → Worker L → Type 0
  HasSeen seen worker = IsPrefix (known worker.pass).seen seen

module _ {B K L : Type 0} where
  -- the worker's pass is of this store
  abbrev pub IsHis : Store B K → Worker L → Type 0
  IsHis store worker = IsOf store worker.pass
