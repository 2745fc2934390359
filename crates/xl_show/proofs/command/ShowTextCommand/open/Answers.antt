-- a stream always tells something behind its last frame, and looks for nothing
use Rattle.std.proofs.Common.{◌++◌, refl}
use Rattle.xl_show.specs.Soon.{soon_from, soon_in}
use Rattle.xl_show.proofs.Ending.{told_some, never_found}
use Rattle.xl_show.proofs.command.ShowTextCommand.open.Goals as goal

pub returns-clause-reads : goal.returns-clause-reads
returns-clause-reads c = λ frames bytes found. absurd (never_found frames.place frames.count (frames.begun.items ++ bytes) found)

pub returns-clause-shows : goal.returns-clause-shows
returns-clause-shows c = λ frames bytes. told_some frames.place frames.count (frames.begun.items ++ bytes)

pub returns-clause-quiet : goal.returns-clause-quiet
unfolding soon_from soon_in
returns-clause-quiet c = refl
