use Rattle.xl_negative.proofs.Rerunning.{law_of_written_runs}
use Rattle.xl_negative.proofs.laws.law_of_written_runs.Goals as goal

pub returns : goal.returns
returns c = law_of_written_runs
