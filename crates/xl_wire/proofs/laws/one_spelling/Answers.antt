use Rattle.xl_wire.proofs.RawLaws.{one_raw}
use Rattle.xl_wire.proofs.FrameLaws.{one_frame}
use Rattle.xl_wire.proofs.laws.one_spelling.Goals as goal

pub returns : goal.returns
returns c = record { frames = one_frame; raws = one_raw }
