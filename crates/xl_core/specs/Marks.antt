-- The word by which a core knows for whom something is left. Source: what the code of this crate relies on.
use Rattle.std.specs.Prelude.{◌≡◌, ℕ, suc, ◌<◌, Bool, List, length, if◌then◌else◌}
use Rattle.std.specs.declared.option.Option.{Option}
use Rattle.std.specs.Int.{bit_at}
use Rattle.xl_queues.specs.Queues.{Backlog}
use Rattle.xl_core.specs.declared.the_core.greeting.Greeting.{Greeting}
use Rattle.xl_core.specs.declared.item.Item.{Item}
use Rattle.xl_core.specs.Core.{is_idle_among}

-- the bit of a number
abbrev pub mark : Bool → ℕ
mark idle = if idle then 0 else 1

-- there is a queue for each number from 1 to 64, and a word tells by its bits for whom something is left
pub record AreMarks (word : ℕ) (greetings : List (Option Greeting)) (waiting : List (Backlog Item)) : Type 0 where
  pub numbers : length waiting ≡ 64
  pub each : (place : ℕ) → place < 64 → bit_at word place ≡ mark (is_idle_among greetings waiting (suc place))

-- they stay so
abbrev pub StayMarks : ℕ → ℕ → List (Backlog Item) → List (Backlog Item) → Type 0
StayMarks old new waiting waiting' =
    (greetings : List (Option Greeting)) → AreMarks old greetings waiting → AreMarks new greetings waiting'
