-- The ids that a node submits first. Source: this project's own.
use Rattle.std.specs.Prelude.{◌≡◌, ℕ, Bool, true, List, ◌∷◌, ◌++◌}
use Rattle.xl_base.specs.declared.ids.TxId.{TxId}
use Rattle.xl_turns.specs.declared.view.Knowledge.{Knowledge}
use Rattle.xl_core.specs.declared.event.CoreEvent.TheVariants.{Submit}
use Rattle.xl_core.specs.Core.{Core}
use Rattle.xl_store.specs.declared.entry.Entry.{Entry}
use Rattle.xl_store.specs.declared.store.StoreEnd.{StoreEnd}
use Rattle.xl_store.specs.declared.store.StoreEnd.TheVariants.{OutOfMemory, StoreFull}
use Rattle.xl_store.specs.Calls.{Call, Made}
use Rattle.xl_workers.specs.Pairing.{Paired}

-- the call submits the id at a moment that the clock may give, whatever it is answered
abbrev pub IsSubmit : (ℕ → Bool) → TxId → Call → Type 0
IsSubmit may_give id call = (now : ℕ) × (may_give now ≡ true) × (call.event ≡ Submit now id)

-- the pass submitted these ids in order, each once, and made no other call
pub record Submitted (start : Core) (may_give : ℕ → Bool)
    (old : Knowledge Entry) (ids : List TxId) (new : Knowledge Entry) : Type 0 where
  pub calls : List Call
  pub each : Paired (IsSubmit may_give) ids calls
  pub made : Made start old new calls

-- a call had no turn: memory ran out, or as many tickets are known to be drawn as the store has turns
abbrev pub HadNoTurn : ℕ → Knowledge Entry → StoreEnd → Type 0
HadNoTurn turns new OutOfMemory = Unit {0}
HadNoTurn turns new (StoreFull n) = (n ≡ turns) × (new.drawn ≡ turns)

-- it submitted the first of the ids, and the next had no turn
pub record SubmittedFront (start : Core) (turns : ℕ) (may_give : ℕ → Bool)
    (old : Knowledge Entry) (ids : List TxId) (end : StoreEnd) (new : Knowledge Entry) : Type 0 where
  pub done : List TxId
  pub next : TxId
  pub rest : List TxId
  pub front : ids ≡ done ++ next ∷ rest
  pub submitted : Submitted start may_give old done new
  pub why : HadNoTurn turns new end
