use Rattle.std.proofs.Common.{◌∙◌}
use Rattle.xl_negative.specs.States.{state_of}
use Rattle.xl_negative.proofs.Decisions.{goes_further, ends_there}
use Rattle.xl_negative.proofs.writer.Writer.outcomes.Goals as goal

pub returns-in_default : goal.returns-in_default
returns-in_default c =
    ends_there (state_of c.loop-outcome.self) (state_of c.outcome.new.self) c.loop-outcome.text.items c.outcome.new.text.items c.args.outcomes.now
    c.loop-outcome.outcome-index c.outcome-item.result c.in_ok-end.end c.loop-outcome-test.true c.outcome-item.is c.in_ok-end.ensures c.in_default.not-Line
    ∙ c.loop-outcome.invariant

pub loop-outcome-preserved : goal.loop-outcome-preserved
loop-outcome-preserved c =
    goes_further (state_of c.loop-outcome.self) (state_of c.outcome.new.self) c.loop-outcome.text.items c.outcome.new.text.items c.args.outcomes.now
    c.loop-outcome.outcome-index c.outcome-item.result c.in_ok-end.end c.loop-outcome-test.true c.outcome-item.is c.in_ok-end.ensures c.in-Line.is
    ∙ c.loop-outcome.invariant
