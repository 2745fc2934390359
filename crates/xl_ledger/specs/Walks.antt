-- Walks along chains, and how many steps they took. A step is one jump that is taken, or one header that is read.
-- Source: this project's own count of steps.
use Rattle.std.specs.Prelude.{◌≡◌, ℕ, ◌≤◌}
use Rattle.xl_base.specs.Counts.{one_more}
use Rattle.xl_ledger.specs.Registries.{Ledgers}

-- the ledgers that it walks on, and the steps so far
pub record Walked : Type 0 where
  pub ledgers : Ledgers
  pub taken : ℕ

-- no step
abbrev pub start_of : Ledgers → Walked
start_of ledgers = record { ledgers = ledgers; taken = 0 }

-- the walk stays on its ledgers, and takes no step back
pub record GoesOn (old new : Walked) : Type 0 where
  pub stays : new.ledgers ≡ old.ledgers
  pub later : old.taken ≤ new.taken

-- it took a step at least
abbrev pub TakesStep : Walked → Walked → Type 0
TakesStep old new = one_more old.taken ≤ new.taken
