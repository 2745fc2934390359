use Rattle.std.proofs.Common.{◌≡◌, drop}
use Rattle.xl_negative.specs.Ringing.{ring_keeping}
use Rattle.xl_negative.specs.States.{state_of}
use Rattle.xl_negative.specs.Writing.{after_outcomes}
use Rattle.xl_negative.proofs.writer.Writer.outcomes.Given as goal

-- what is told from here on is what was to be told
abbrev pub invariant-loop-outcome : goal.invariant-loop-outcome
invariant-loop-outcome l =
    after_outcomes ring_keeping (state_of l.self) l.text.items (drop l.outcome-index l.outcomes)
    ≡ after_outcomes ring_keeping (state_of l.initial.self) l.initial.text.items l.outcomes
