use Rattle.std.proofs.Common.{length, ap}
use Rattle.xl_running.specs.Running.{world_of}
use Rattle.xl_spelling.specs.Spellings.{list_line, spelling}
use Rattle.xl_negative.specs.Writing.{step_adding}
use Rattle.xl_negative.proofs.laws.law_of_added_lists.Goals as goal

pub returns : goal.returns
returns c s text i list may =
    ap (step_adding s text (spelling (list_line s.running.reading i list)))
    (c.law_of_read_lists.ensures s.running.reading (length (world_of s.running).sent) i list may)
