-- all that happens in the seconds before this one came
use Rattle.std.proofs.Common.{◌-◌}
use Rattle.std.specs.List.{flat_map}
use Rattle.xl_world.specs.Plans.{up_from}
use Rattle.xl_gen.specs.Schedule.{events_of}
use Rattle.xl_gen.specs.Summaries.{Comes}
use Rattle.xl_gen.proofs.generator.Generator.run.Given as goal

abbrev pub invariant-loop-second : goal.invariant-loop-second
invariant-loop-second l = Comes l.initial.self l.self (flat_map events_of (up_from 1 (l.second - 1)))
