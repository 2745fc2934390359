use Rattle.std.proofs.Common.{length, sym, subst}
use Rattle.xl_core.specs.Stops.{IsCovered}
use Rattle.xl_core.proofs.Greeted.{nothing_left}
use Rattle.xl_core.proofs.Stopping.{drain_covered}
use Rattle.xl_core.proofs.the_core.Core.drain.Goals as goal

pub returns-clause-nothing : goal.returns-clause-nothing
returns-clause-nothing g c = nothing_left c.args.self.now c.write.new.self c.args.member c.write.result c.args.room.now c.write.new.room c.requires.room c.write.ensures.step

pub returns-clause-stop : goal.returns-clause-stop
returns-clause-stop g c = λ held was.
    subst (IsCovered held) (sym c.write.ensures.step.core) (drain_covered held c.args.self.now c.args.member (length c.args.room.now) was)
