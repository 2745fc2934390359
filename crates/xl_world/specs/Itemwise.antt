-- How what waits for a number that wasn't greeted is sent, item by item. Source: what the code of this crate relies on.
use Rattle.std.specs.Prelude.{◌≡◌, ℕ, Bool, true, false, List, [], ◌∷◌, map, Option}
use Rattle.xl_core.specs.Core.{Core}
use Rattle.xl_core.specs.Items.{frames_for}
use Rattle.xl_core.specs.Queues.{after_taking, at_number, frames_in}
use Rattle.xl_world.specs.Indexes.{Traffic, with_frames}
use Rattle.xl_world.specs.Seen.{sent_from}

-- the oldest item was taken out, and its frame was sent, if it has one
pub record SendsOne (core : Core) (to : ℕ) (now : Traffic) (after : Core) (later : Traffic) : Type 0 where
  pub first : Option (List ℕ)
  pub rest : List (Option (List ℕ))
  pub is : frames_for core.node core.waiting to ≡ first ∷ rest
  pub taken : after ≡ record core { waiting = at_number core.waiting to (after_taking (first ∷ [])) }
  pub sent : later ≡ with_frames now (map (sent_from core.node.me to) (frames_in (first ∷ [])))

-- there was one, or nothing waits and nothing happened
abbrev pub Sends : Bool → Core → ℕ → Traffic → Core → Traffic → Type 0
Sends true core to now after later = SendsOne core to now after later
Sends false core to now after later = (frames_for core.node core.waiting to ≡ []) × (after ≡ core) × (later ≡ now)
