-- frames without their tags are as many as with them, so the core is left as by the drain of the sealed ones
use Rattle.std.proofs.Common.{length, sym, subst}
use Rattle.xl_core.specs.Replies.{core_for}
use Rattle.xl_core.specs.Stops.{IsCovered}
use Rattle.xl_core.specs.declared.sending.TagPlace.TheVariants.{Blank}
use Rattle.xl_core.proofs.Blanks.{drains_blank, none_blank}
use Rattle.xl_core.proofs.Greeted.{nothing_left}
use Rattle.xl_core.proofs.Stopping.{drain_covered}
use Rattle.xl_core.proofs.the_core.Core.drain_blank.Goals as goal

pub returns-clause-step : goal.returns-clause-step
returns-clause-step g c = drains_blank c.args.self.now c.write.new.self c.args.member c.write.result c.args.room.now c.write.new.room c.write.ensures.step c.write.ensures.node

pub returns-clause-nothing : goal.returns-clause-nothing
returns-clause-nothing g c =
    let left = nothing_left (core_for Blank c.args.self.now) (core_for Blank c.write.new.self) c.args.member c.write.result c.args.room.now c.write.new.room c.requires.room c.write.ensures.step in
    let none = none_blank c.args.self.now c.args.member (length c.args.room.now) in
    (λ gave. none.0 (left.0 gave), λ nothing. left.1 (none.1 nothing))

pub returns-clause-stop : goal.returns-clause-stop
returns-clause-stop g c = λ held was.
    subst (IsCovered held) (sym (returns-clause-step g c).core) (drain_covered held c.args.self.now c.args.member (length c.args.room.now) was)
