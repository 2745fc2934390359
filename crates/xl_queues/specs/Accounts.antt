-- What became of all that was ever pushed. Source: this profile.
use Rattle.std.specs.Prelude.{◌≡◌, ◌-◌, ◌^◌, min, Bool, not, List, ◌++◌, map, filter, count_by}
use Rattle.xl_queues.specs.Queues.{Backlog}

-- an item that is no longer held: it was taken or lost
pub record Gone (T : Type 0) : Type 0 where
  pub item : T
  pub taken : Bool

-- what was pushed is what has gone and then what is held; of the gone items the taken ones were handed out, and the
-- others were counted as lost
pub record IsAccounted {T : Type 0} (pushed taken : List T) (queue : Backlog T) : Type 0 where
  pub gone : List (Gone T)
  pub in_order : pushed ≡ map (λ g. g.item) gone ++ queue.items
  pub handed_out : taken ≡ map (λ g. g.item) (filter (λ g. g.taken) gone)
  pub counted : queue.lost ≡ min (count_by (λ g. not g.taken) gone) (2 ^ 64 - 1)

module _ {T : Type 0} where
  -- all is accounted for after the call as it was before, with these items pushed and these taken by it
  abbrev pub Accounts : Backlog T → Backlog T → List T → List T → Type 0
  Accounts old new pushed taken =
      (before out : List T) → IsAccounted before out old → IsAccounted (before ++ pushed) (out ++ taken) new
