-- What a history leaves of the keeper, which was asked what its events ask. Source: this profile, by which a node saves
-- a sequence before it says it.
use Rattle.std.specs.Prelude.{◌≡◌, ℕ, ◌≤◌, ◌⊎◌, Bool, List, [], ◌∷◌, ◌++◌, All, Some, None, option_map, option_to_list}
use Rattle.std.specs.declared.option.Option.{Option}
use Rattle.std.specs.Io.KnownBytes.{append_known}
use Rattle.xl_base.specs.Faults.{Rose}
use Rattle.xl_io.specs.Keepers.{Held}
use Rattle.xl_core.specs.Core.{Core, core_asks}
use Rattle.xl_core.specs.CoreLives.{held_after}
use Rattle.xl_core.specs.Keeping.{Saves}
use Rattle.xl_core.specs.Node.{is_kept}
use Rattle.xl_store.specs.declared.entry.Entry.{Entry}
use Rattle.xl_store.specs.declared.entry.Saved.{Saved}
use Rattle.xl_store.specs.declared.entry.Saved.TheVariants as saved
use Rattle.xl_store.specs.Entries.{save_of, reply_of, life_of}

-- every number that a history asks to be saved
abbrev pub asked_over : Core → List Entry → List ℕ
asked_over core [] = []
asked_over core (e ∷ es) = option_to_list (core_asks core e.event) ++ asked_over (reply_of core e).core es

-- of all numbers that were asked to be saved these are the last, unless they aren't told any more
abbrev pub AddsSaves : Option (List ℕ) → Option (List ℕ) → List ℕ → Type 0
AddsSaves old new seqs = (new ≡ None) ⊎ (new ≡ append_known old seqs)

-- the counts that the failed saves of a history tell
abbrev pub count_in : Option Saved → List ℕ
count_in None = []
count_in (Some saved.Ok) = []
count_in (Some (saved.Failed count)) = count ∷ []

abbrev pub counts_of : List Entry → List ℕ
counts_of [] = []
counts_of (e ∷ es) = count_in e.outcome ++ counts_of es

-- a count of faults that was reached in between: above the first, or where a count ends, and not above the second
abbrev pub IsBetween : ℕ → ℕ → ℕ → Type 0
IsBetween old new count = Rose old count × (count ≤ new)

module _ {K : Type 0}
    (held_by : K → Option Held) (saves_of : K → Option (List ℕ)) (faults_of : K → ℕ)
    (gives : K → ℕ → Bool → K → Type 0) where
  -- the saves of a history lead from one keeper to the other, as it says of each save
  abbrev pub SavesAll : Core → List Entry → K → K → Type 0
  SavesAll core [] old new = new ≡ old
  SavesAll core (e ∷ es) old new =
      (next : K)
      × Saves gives (core_asks core e.event) (is_kept (save_of e.outcome)) old next
      × SavesAll (reply_of core e).core es next new

  -- the keeper that a history leaves, from the one that it found
  pub record KeepsAll (start : Core) (journal : List Entry) (old new : K) : Type 0 where
    pub held : held_by new ≡ option_map (λ held. held_after held start (life_of journal)) (held_by old)
    pub saves : AddsSaves (saves_of old) (saves_of new) (asked_over start journal)
    pub keeper : SavesAll start journal old new
    pub later : faults_of old ≤ faults_of new
    pub counts : All (IsBetween (faults_of old) (faults_of new)) (counts_of journal)
