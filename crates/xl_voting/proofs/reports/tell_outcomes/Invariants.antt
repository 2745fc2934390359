use Rattle.std.proofs.Common.{◌≡◌, drop}
use Rattle.std.specs.String.{string_bytes}
use Rattle.xl_voting.specs.Reports.{behind, outcomes_said}
use Rattle.xl_voting.specs.Tallying.{tally_keeping}
use Rattle.xl_voting.proofs.reports.tell_outcomes.Given as goal

-- what is told so far, and what is to be told of the others, is all
abbrev pub invariant-loop-outcome : goal.invariant-loop-outcome
invariant-loop-outcome l =
    behind (string_bytes l.text) (outcomes_said tally_keeping l.reader.names l.world l.tally (drop l.outcome-index l.outcomes))
    ≡ behind (string_bytes l.fn.text) (outcomes_said tally_keeping l.reader.names l.world l.fn.tally l.outcomes)
