-- What is told of a history that goes on.
use Rattle.std.proofs.Common.{◌≡◌, ℕ, Bool, true, List, Option, Some, None, refl, sym, subst}
use mathlib.Core.List.{IsPrefix}
use Rattle.xl_core.specs.Core.{Core}
use Rattle.xl_store.specs.declared.entry.Entry.{Entry}
use Rattle.xl_heartbeat.specs.declared.bulletin.Bulletin.{Bulletin}
use Rattle.xl_core.specs.CoreLives.{core_after}
use Rattle.xl_store.specs.declared.status.NodeStatus.{NodeStatus}
use Rattle.xl_store.specs.Entries.{life_of}
use Rattle.xl_store.specs.Statuses.{status_of}
use Rattle.xl_status.specs.declared.look.Look.{Look}
use Rattle.xl_heartbeat.specs.Bulletins.{is_due, NotesIf, Tells, Told, ToldIf}

module _ {D : Type 0} (gives : D → List ℕ → Bool → D → Type 0) (start : Core) where
  pub untold : (first : Option (Bulletin D)) (seen : List Entry) → ToldIf gives start first seen first
  untold None seen = refl
  untold (Some first) seen = Told.nothing seen

  -- the history goes on, and nothing is told
  pub still_told : (first last : Option (Bulletin D)) (seen longer : List Entry) → IsPrefix seen longer
      → ToldIf gives start first seen last → ToldIf gives start first longer last
  still_told None last seen longer p t = t
  still_told (Some first) None seen longer p t = absurd t
  still_told (Some first) (Some last) seen longer p t = Told.goes_on seen longer last t p

  -- what became of a look is kept
  pub noted : (first mid last : Option (Bulletin D)) (look : Option Look) (seen : List Entry) → NotesIf look mid last
      → ToldIf gives start first seen mid → ToldIf gives start first seen last
  noted first mid last None seen n t = subst (λ o. ToldIf gives start first seen o) (sym n) t
  noted None mid last (Some look) seen n t = subst (λ o. NotesIf (Some look) o last) t n
  noted (Some first) None last (Some look) seen n t = absurd t
  noted (Some first) (Some mid) None (Some look) seen n t = absurd n
  noted (Some first) (Some mid) (Some last) (Some look) seen n t = Told.notes seen look mid last t n

  -- a text was due, and is that of the core behind all that was seen
  pub told_now : (first : Bulletin D) (old new : List Entry) (now : ℕ) (mid last : Bulletin D) (status : NodeStatus)
      → IsPrefix old new → is_due mid.due now ≡ true → status ≡ status_of (core_after start (life_of new))
      → Tells gives status now mid last → Told gives start first old mid → Told gives start first new last
  told_now first old new now mid last status p due is tells t =
      Told.tells new now mid last (Told.goes_on old new mid t p) due
      (subst (λ (s : NodeStatus). Tells gives s now mid last) is tells)
