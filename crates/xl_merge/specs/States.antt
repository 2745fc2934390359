-- The state of the machine, as the definitions see it. Source: what the code of this crate keeps.
use Rattle.xl_merge.specs.declared.machine.Merger.{Merger}
use Rattle.xl_merge.specs.Merging.{Merging}

abbrev pub state_of : Merger → Merging
state_of m = record { lines = m.lines; register = m.publishers; threshold = m.threshold; now = m.moment }
