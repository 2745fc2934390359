-- How a heartbeat follows the lists of publishers. Source: this project's own rule.
use Rattle.std.specs.Prelude.{◌≡◌, ◌≢◌, ℕ, ◌/◌, List, [], ◌∷◌, Some, None}
use Rattle.std.specs.declared.option.Option.{Option}
use Rattle.xl_lists.specs.Lists.{TrustedList}
use Rattle.xl_publish.specs.declared.publishing.Publishing.{Publishing}
use Rattle.xl_publish.specs.Forces.{list_at}
use Rattle.xl_core.specs.declared.event.CoreEvent.TheVariants.{Relist}
use Rattle.xl_core.specs.declared.refusal.Refusal.{Refusal}
use Rattle.xl_core.specs.Answers as answer
use Rattle.xl_store.specs.Calls.{Call}

-- the publishers' list at the second of a moment, if there are publishers and they have one then
abbrev pub made_at : Option Publishing → ℕ → Option TrustedList
made_at None now = None
made_at (Some p) now = list_at p.publishers.kept (now / 1000) p.threshold

-- there is no other list than the one last set
abbrev pub IsNoOther : Option TrustedList → TrustedList → Type 0
IsNoOther None set = Unit {0}
IsNoOther (Some list) set = list ≡ set

-- what is to be set: the publishers' list, if it is another than the one last set
abbrev pub IsOtherList : Option TrustedList → TrustedList → Option TrustedList → Type 0
IsOtherList made set None = IsNoOther made set
IsOtherList made set (Some list) = (made ≡ Some list) × (list ≢ set)

-- a list is asked for, and the core may refuse it
abbrev pub relist : ℕ → TrustedList → Option Refusal → Call
relist now list None = record { event = Relist now list; answer = answer.Done }
relist now list (Some why) = record { event = Relist now list; answer = answer.Refused why }

-- the list that is set after that call: the one asked for, unless it was refused
abbrev pub set_after : TrustedList → TrustedList → Option Refusal → TrustedList
set_after set list None = list
set_after set list (Some why) = set

-- At a moment one call asks for the publishers' list, if it is another than the one last set; else none does. This list
-- is the one last set then
pub data Relists (made : Option TrustedList) (now : ℕ) (set : TrustedList) : List Call → TrustedList → Type 0 where
  stays : IsNoOther made set → Relists made now set [] set
  follows : (list : TrustedList) (refusal : Option Refusal) → IsOtherList made set (Some list)
      → Relists made now set (relist now list refusal ∷ []) (set_after set list refusal)
