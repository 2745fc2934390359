-- The law of the drains that follow an event. Source: this project's schedule language.
use Rattle.std.specs.Prelude.{◌≡◌, ℕ, ◌==◌, All, false, List, []}
use Rattle.xl_core.specs.Answers.{given_in}
use Rattle.xl_core.specs.Core.{Core}
use Rattle.xl_world.specs.Emptying.{IsEmptied, after_events, drained_once, drains_of}

-- behind them no frame is left for another number of these
abbrev pub DrainsEmpty : Type 0
DrainsEmpty = (numbers : List ℕ) (core : Core) → IsEmptied numbers (after_events core (drains_of numbers core))

-- one more drain for another number gives nothing
abbrev pub GivesNothing : List ℕ → Core → Type 0
GivesNothing numbers core =
    All (λ member. (member == core.node.me) ≡ false → given_in (drained_once core member).answer ≡ []) numbers

abbrev pub LastGivesNothing : Type 0
LastGivesNothing = (numbers : List ℕ) (core : Core) → GivesNothing numbers (after_events core (drains_of numbers core))
