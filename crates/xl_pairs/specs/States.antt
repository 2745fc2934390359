-- The state of the machine, as the definitions see it. Source: what the code of this crate keeps.
use Rattle.xl_pairs.specs.declared.machine.Comparer.{Comparer}
use Rattle.xl_pairs.specs.Comparing.{Comparing}

abbrev pub state_of : Comparer → Comparing
state_of c = record { reading = c.reader; nodes = c.nodes.items; liars = c.liars.items }
