-- The porter: it attends the door, if there is one, with a pass of its own. Source: this project's own.
use Rattle.std.specs.Prelude.{◌≡◌, ℕ, Bool, Some, None}
use Rattle.std.specs.declared.option.Option.{Option}
use Rattle.xl_turns.specs.declared.view.Knowledge.{Knowledge}
use Rattle.xl_turns.specs.Passes.{known}
use Rattle.xl_links.specs.Doors.{Doorway}
use Rattle.xl_core.specs.Core.{Core}
use Rattle.xl_store.specs.declared.entry.Entry.{Entry}
use Rattle.xl_store.specs.declared.store.Store.{Store}
use Rattle.xl_store.specs.Stores.{start_of, turns_of, IsOf}
use Rattle.xl_door.specs.declared.ends.Attended.{Attended}
use Rattle.xl_door.specs.Attending.{Attends}
use Rattle.xl_workers.specs.declared.porter.Porter.{Porter}

module _ {D : Type 0} where
  -- the door was attended; without one nothing was done
  abbrev pub AttendsIf : Core → ℕ → (ℕ → Bool) → (D → Doorway) → Option D → Option D → Knowledge Entry → Knowledge Entry
      → Type 0
  AttendsIf start turns may_give shows None after old new = new ≡ old
  AttendsIf start turns may_give shows (Some door) None old new = ⊥
  AttendsIf start turns may_give shows (Some door) (Some after) old new =
      (why : Attended) × Attends start turns may_give old (shows door) why new (shows after)

module _ {B K D : Type 0} where
  -- the porter attended its door
  pub record HasKept (store : Store B K) (may_give : ℕ → Bool) (shows : D → Doorway) (old new : Porter D) : Type 0 where
    pub pass : IsOf store new.pass
    pub attends : AttendsIf (start_of store) (turns_of store) may_give shows old.door new.door
        (known old.pass) (known new.pass)
