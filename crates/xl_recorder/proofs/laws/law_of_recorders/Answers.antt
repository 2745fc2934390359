use Rattle.xl_recorder.specs.Recorders.{seen}
use Rattle.xl_recorder.proofs.Handing.{is_recorded}
use Rattle.xl_recorder.proofs.laws.law_of_recorders.Goals as goal

pub returns : goal.returns
returns g c = is_recorded (seen g.S.Sink.held g.S.Sink.faults)
