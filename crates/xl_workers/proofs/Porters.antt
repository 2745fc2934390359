-- A porter without a door.
use Rattle.std.proofs.Common.{◌≡◌, Bool, false, ℕ, Option, None, Some, refl, sym, subst}
use Rattle.std.specs.Option.{is_some}
use Rattle.xl_turns.specs.Passes.{known}
use Rattle.xl_links.specs.Doors.{Doorway}
use Rattle.xl_store.specs.declared.store.Store.{Store}
use Rattle.xl_store.specs.Stores.{start_of, turns_of, IsOf}
use Rattle.xl_workers.specs.declared.porter.Porter.{Porter}
use Rattle.xl_workers.specs.Doors.{AttendsIf, HasKept}

pub no_door : {D : Type 0} (door : Option D) → is_some door ≡ false → door ≡ None
no_door None none = refl
no_door (Some door) none = cc

module _ {B K D : Type 0} (store : Store B K) (may : ℕ → Bool) (shows : D → Doorway) where
  pub kept_none : (porter : Porter D) → IsOf store porter.pass → porter.door ≡ None
      → HasKept store may shows porter porter
  kept_none porter is none = record {
    pass = is;
    attends = subst
        (λ (door : Option D).
        AttendsIf (start_of store) (turns_of store) may shows door door (known porter.pass) (known porter.pass))
        (sym none) refl;
  }
