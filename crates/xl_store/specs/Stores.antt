-- What the store's clauses say of it and of its passes. Source: this project's own.
use Rattle.std.specs.Prelude.{◌≡◌, ℕ, ◌+◌, ◌<◌, ◌≤◌, Bool, List, [], ◌∷◌, ◌++◌, length, drop, None}
use Rattle.std.specs.declared.option.Option.{Option}
use mathlib.Core.List.{IsPrefix}
use Rattle.std.specs.Global.{Box}
use Rattle.xl_turns.specs.declared.view.Knowledge.{Knowledge}
use Rattle.xl_turns.specs.declared.pass.Pass.{Pass}
use Rattle.xl_turns.specs.declared.pass.Turn.{Turn}
use Rattle.xl_turns.specs.Histories.{Runs, IsLegal}
use Rattle.xl_turns.specs.Knowing.{with_drawn}
use Rattle.xl_turns.specs.Passes.{known, knows, opening, limit_of, IsPassOf}
use Rattle.xl_io.specs.Keepers.{Held}
use Rattle.xl_core.specs.declared.event.CoreEvent.{CoreEvent}
use Rattle.xl_core.specs.declared.event.CoreEvent.TheVariants.{Drain, Reports}
use Rattle.xl_core.specs.declared.report.Report.{Report}
use Rattle.xl_core.specs.Answers.{Answer, Gave, Handed}
use Rattle.xl_core.specs.Core.{Core}
use Rattle.xl_core.specs.CoreLives.{core_after}
use Rattle.xl_core.specs.Queues.{stream_of}
use Rattle.xl_store.specs.declared.entry.Entry.{Entry}
use Rattle.xl_store.specs.declared.home.Home.{Home}
use Rattle.xl_store.specs.declared.store.Store.{Store}
use Rattle.xl_store.specs.declared.store.StoreEnd.{StoreEnd}
use Rattle.xl_store.specs.declared.store.StoreEnd.TheVariants.{OutOfMemory, StoreFull}
use Rattle.xl_store.specs.Entries.{Leads, life_of, page_of}
use Rattle.xl_store.specs.declared.retention.Retention.{Retention}
use Rattle.xl_store.specs.declared.page.Page.{Page}
use Rattle.xl_store.specs.Retentions.{keeps_any}
use Rattle.xl_store.specs.Pages.{on, has_node}
use Rattle.xl_store.specs.Homes.{Goes, LeadsHome}
use Rattle.xl_store.specs.Calls.{Made, IsLast}

module _ {B K : Type 0} where
  -- the core that the store was opened with
  abbrev pub start_of : Store B K → Core
  start_of store = (opening store.lock).value.core

  -- and the keeper
  abbrev pub keeper_of : Store B K → K
  keeper_of store = (opening store.lock).value.keeper

  -- how many turns it has in all
  abbrev pub turns_of : Store B K → ℕ
  turns_of store = limit_of store.lock

  -- which entries it keeps
  abbrev pub retention_of : Store B K → Retention
  retention_of store = store.retention

  -- the core after all that a pass of the store has seen
  abbrev pub core_seen : Store B K → Pass Entry → Core
  core_seen store pass = core_after (start_of store) (life_of (known pass).seen)

  -- it is a pass of this store
  abbrev pub IsOf : Store B K → Pass Entry → Type 0
  IsOf store pass = IsPassOf store.lock pass

  -- The pass made this one call. What it has seen then is a legal history, of which the call's entry is the last; and
  -- its ticket, whose number is that place, was none that the pass knew of, and one of the store's turns
  pub record Called (store : Store B K) (old : Pass Entry) (event : CoreEvent) (answer : Answer) (new : Pass Entry)
      : Type 0 where
    pub made : Made (start_of store) (known old) (known new) (record { event = event; answer = answer } ∷ [])
    pub legal : IsLegal Leads (start_of store) (known new).seen
    pub last : IsLast event (known old) (known new)
    pub drawn : (known new).drawn ≡ length (known new).seen
    pub later : (known old).drawn < (known new).drawn
    pub within : (known new).drawn ≤ turns_of store

  -- the pass made one call that gave frames, with which the room begins
  pub record Drained (store : Store B K) (old : Pass Entry) (member written : ℕ) (before after : List ℕ)
      (new : Pass Entry) : Type 0 where
    pub frames : List (List ℕ)
    pub called : Called store old (Drain member (length before)) (Gave member frames) new
    pub count : written ≡ length (stream_of frames)
    pub room : after ≡ stream_of frames ++ drop written before

  -- the pass made one call that handed out reports, with which the room begins
  pub record HandedOut (store : Store B K) (old : Pass Entry) (written : ℕ) (before after : List Report)
      (new : Pass Entry) : Type 0 where
    pub reports : List Report
    pub called : Called store old (Reports (length before)) (Handed reports) new
    pub count : written ≡ length reports
    pub room : after ≡ reports ++ drop written before

  -- it knows as much as before; if a full store is named as the cause, it knows besides that all turns were drawn
  abbrev pub IsWhy : Store B K → Knowledge Entry → StoreEnd → Knowledge Entry → Type 0
  IsWhy store old OutOfMemory new = new ≡ old
  IsWhy store old (StoreFull n) new =
      (n ≡ turns_of store) × (old.drawn ≤ turns_of store) × (new ≡ with_drawn old (turns_of store))

  -- the pass made no call
  pub record Refused (store : Store B K) (old : Pass Entry) (end : StoreEnd) (new : Pass Entry) : Type 0 where
    pub made : Made (start_of store) (known old) (known new) []
    pub why : IsWhy store (known old) end (known new)

module _ {B K : Type 0}
    (held_by : K → Option Held) (saves_of : K → Option (List ℕ)) (faults_of : K → ℕ)
    (gives : K → ℕ → Bool → K → Type 0) where
  -- in its turn the pass has a legal history that begins with all that it had seen, and a page with the event
  pub record Begun (store : Store B K) (old : Pass Entry) (event : CoreEvent) (turn : Turn (Box (Home B K)) Entry)
      (page : Page) : Type 0 where
    pub written : on page ≡ page_of event None
    pub node : has_node page ≡ keeps_any (retention_of store)
    pub begins : IsPrefix (known old).seen turn.journal
    pub found : Runs (LeadsHome held_by saves_of faults_of gives) (opening store.lock) turn.journal turn.object
    pub below : length turn.journal < turns_of store
    pub drawn : (known old).drawn ≤ length turn.journal
    pub entered : knows turn ≡ with_drawn (known old) (length turn.journal + 1)

  -- the page's one entry leads from the home that the turn found to the one that it has now, but isn't kept yet
  pub record Ends (store : Store B K) (turn : Turn (Box (Home B K)) Entry) (page : Page) : Type 0 where
    pub found : Box (Home B K)
    pub entry : Entry
    pub runs : Runs (LeadsHome held_by saves_of faults_of gives) (opening store.lock) turn.journal found
    pub goes : Goes held_by saves_of faults_of gives found.value entry turn.object.value
    pub kept : turn.object.value.kept ≡ found.value.kept
    pub written : on page ≡ entry ∷ []
    pub node : has_node page ≡ keeps_any (retention_of store)
