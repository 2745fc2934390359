use Rattle.std.proofs.Common.{◌∙◌, List, ap, sym}
use Rattle.xl_world.specs.Indexes.{with_frames}
use Rattle.xl_world.specs.Sending.{Sent}
use Rattle.xl_world.proofs.Drains.{with_none}
use Rattle.xl_world.proofs.Idling.{turns_still}
use Rattle.xl_world.proofs.draining.drain.Goals as goal

pub returns-then-are_idle-clause-core : goal.returns-then-are_idle-clause-core
returns-then-are_idle-clause-core c = sym (turns_still c.args.core.now _ (c.are_idle.ensures c.if-are_idle.true)).leaves

pub returns-then-are_idle-clause-sent : goal.returns-then-are_idle-clause-sent
returns-then-are_idle-clause-sent c =
    sym (with_none c.args.traffic.now)
    ∙ ap (λ (fs : List Sent). with_frames c.args.traffic.now fs) (sym (turns_still c.args.core.now _ (c.are_idle.ensures c.if-are_idle.true)).gives)
