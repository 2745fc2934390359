use Rattle.xl_recorder.proofs.Taking.{opened_so}
use Rattle.xl_recorder.proofs.file_recorder.FileRecorder.open.Goals as goal

pub returns : goal.returns
returns g c = opened_so _ c.begin-begun.result c.stage_of-stage.result _ c.begin-begun.ensures c.stage_of-stage.ensures
