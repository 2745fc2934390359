use Rattle.std.specs.String.{string_bytes}
use Rattle.xl_voting.specs.Reports.{behind, outcomes_said}
use Rattle.xl_voting.specs.Tallying.{tally_keeping}
use Rattle.xl_voting.proofs.Saying.{outcomes_on}
use Rattle.xl_voting.proofs.reports.tell_outcomes.Goals as goal

pub loop-outcome-preserved : goal.loop-outcome-preserved
loop-outcome-preserved c =
    outcomes_on c.args.reader.now.names c.args.world.now c.args.outcomes.now c.loop-outcome.outcome-index c.outcome-item.result
    (behind (string_bytes c.args.text.now) (outcomes_said tally_keeping c.args.reader.now.names c.args.world.now c.args.tally.now c.args.outcomes.now)) (string_bytes c.loop-outcome.text)
    (string_bytes c.tell_outcome.new.text) c.loop-outcome.tally c.tell_outcome.new.tally c.loop-outcome-test.true c.outcome-item.is c.in_ok-tell_outcome.ensures c.loop-outcome.invariant
