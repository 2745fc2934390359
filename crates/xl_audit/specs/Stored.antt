-- What the types of a journal keep. Source: what the code of this crate relies on.
use Rattle.std.specs.Prelude.{◌<◌, ◌≤◌, ◌^◌, ℕ, IfSome, Some, None}
use Rattle.std.specs.declared.option.Option.{Option}
use Rattle.hex.specs.Hex.{IsBytes}
use Rattle.xl_base.specs.Ids.{IsId}
use Rattle.xl_lists.specs.Lists.{IsValid}
use Rattle.xl_tags.specs.Rings.{Ring, IsRing, key_of}
use Rattle.xl_core.specs.declared.event.CoreEvent.{CoreEvent}
use Rattle.xl_core.specs.declared.event.CoreEvent.TheVariants as event
use Rattle.xl_core.specs.declared.settings.Settings.{Settings}
use Rattle.xl_store.specs.declared.entry.Entry.{Entry}
use Rattle.xl_store.specs.declared.entry.Saved.{Saved}
use Rattle.xl_store.specs.declared.entry.Saved.TheVariants as saved

-- a member's number
abbrev pub IsMember : ℕ → Type 0
IsMember m = (1 ≤ m) × (m ≤ 64)

abbrev pub IsStoredEvent : CoreEvent → Type 0
IsStoredEvent (event.Frame now bytes) = IsBytes bytes
IsStoredEvent (event.Submit now tx) = IsId tx.0
IsStoredEvent (event.Issue now seq id full) = (seq < 2 ^ 32) × IsId id.0
IsStoredEvent (event.Greet member) = IsMember member
IsStoredEvent (event.Drain member room) = IsMember member × (room < 2 ^ 64)
IsStoredEvent (event.Reports room) = room < 2 ^ 64
IsStoredEvent other = Unit {0}

abbrev pub IsStoredOutcome : Option Saved → Type 0
IsStoredOutcome None = Unit {0}
IsStoredOutcome (Some saved.Ok) = Unit {0}
IsStoredOutcome (Some (saved.Failed count)) = count < 2 ^ 64

abbrev pub IsStored : Entry → Type 0
IsStored e = IsStoredEvent e.event × IsStoredOutcome e.outcome

-- each key has the length of an id
abbrev pub HasIds : Ring → Type 0
HasIds ring = (m : ℕ) → 1 ≤ m → m ≤ 64 → IfSome (key_of ring m) IsId

pub record AreStored (s : Settings) : Type 0 where
  pub me : IsMember s.me
  pub list : IsValid s.list
  pub ring : IsRing s.keys
  pub ids : HasIds s.keys
