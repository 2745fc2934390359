-- A core and its keeper in a turn. Source: this profile, by which a keeper is asked for at most one save in an event.
use Rattle.std.specs.Prelude.{◌≡◌, ℕ, Bool, List, [], ◌∷◌, Some, None}
use Rattle.std.specs.declared.option.Option.{Option}
use Rattle.std.specs.Global.{Box}
use Rattle.xl_base.specs.Faults.{Rose}
use Rattle.xl_io.specs.Keepers.{Held}
use Rattle.xl_core.specs.Answers.{Answer}
use Rattle.xl_core.specs.Core.{core_asks}
use Rattle.xl_core.specs.Keeping.{IsAsked}
use Rattle.xl_core.specs.Node.{is_kept}
use Rattle.xl_store.specs.declared.entry.Entry.{Entry}
use Rattle.xl_store.specs.declared.entry.Saved.{Saved}
use Rattle.xl_store.specs.declared.entry.Saved.TheVariants as saved
use Rattle.xl_store.specs.declared.home.Home.{Home}
use Rattle.xl_store.specs.Entries.{save_of, reply_of, Leads}
use Rattle.xl_store.specs.Retentions.{kept_with, takes_reports}

-- a save that failed was counted, and tells the count
abbrev pub IsCounted : Option Saved → ℕ → ℕ → Type 0
IsCounted None old new = Unit {0}
IsCounted (Some saved.Ok) old new = Unit {0}
IsCounted (Some (saved.Failed count)) old new = Rose old new × (count ≡ new)

module _ {B K : Type 0}
    (held_by : K → Option Held) (saves_of : K → Option (List ℕ)) (faults_of : K → ℕ)
    (gives : K → ℕ → Bool → K → Type 0) where
  -- the entry leads from one core and keeper to the next
  pub record Goes (before : Home B K) (e : Entry) (after : Home B K) : Type 0 where
    pub core : Leads before.core e after.core
    pub keeper : IsAsked held_by saves_of faults_of gives
        (core_asks before.core e.event) (is_kept (save_of e.outcome)) before.keeper after.keeper
    pub counted : IsCounted e.outcome (faults_of before.keeper) (faults_of after.keeper)

  -- and is kept, if entries are
  abbrev pub LeadsHome : Box (Home B K) → Entry → Box (Home B K) → Type 0
  LeadsHome before e after =
      Goes before.value e after.value × (after.value.kept ≡ kept_with before.value.kept (takes_reports e.event) (e ∷ []))

  -- the entry leads on, the core's step answers this, and no entry is kept yet
  pub record AnswersHome (before : Home B K) (e : Entry) (answered : Answer) (after : Home B K) : Type 0 where
    pub goes : Goes before e after
    pub kept : after.kept ≡ before.kept
    pub answer : (reply_of before.core e).answer ≡ answered
