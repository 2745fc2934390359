-- The state of the machine, as the definitions see it. Source: what the code of this crate keeps.
use Rattle.std.specs.Prelude.{List, [], Some, None}
use Rattle.std.specs.declared.option.Option.{Option}
use Rattle.xl_lists.specs.declared.said.SaidLedger.{SaidLedger}
use Rattle.xl_world.specs.World.{World}
use Rattle.xl_negative.specs.declared.writer.Writer.{Writer}
use Rattle.xl_negative.specs.Ringing.{Places}
use Rattle.xl_negative.specs.Writing.{Writing}

abbrev pub state_of : Writer → Writing Places
state_of w = record { running = w.running; lines = w.lines; seats = w.seats }

-- every validation that was issued in a world, once there is one
abbrev pub issued_in : Option World → List SaidLedger
issued_in None = []
issued_in (Some w) = w.said
