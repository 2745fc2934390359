-- The state of the machine, as the definitions see it. Source: what the code of this crate keeps.
use Rattle.xl_blame.specs.declared.gathering.Gathered as code
use Rattle.xl_blame.specs.declared.machine.Blamer.{Blamer}
use Rattle.xl_blame.specs.Blaming.{Blaming}
use Rattle.xl_blame.specs.Gathering.{Gathered}

abbrev pub gathered_seen : code.Gathered → Gathered
gathered_seen g = record { said = g.said.items; reported = g.reported.items; heard = g.heard; given = g.given }

abbrev pub state_of : Blamer → Blaming
state_of b = record { lines = b.lines; course = b.course; ended = b.ended.items; shown = gathered_seen b.shown }
