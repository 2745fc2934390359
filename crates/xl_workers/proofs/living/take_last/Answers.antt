use Rattle.std.proofs.Common.{refl, sym, subst}
use Rattle.xl_turns.specs.Passes.{known}
use Rattle.xl_store.specs.Stores.{start_of, turns_of}
use Rattle.xl_heartbeat.specs.declared.ends.Ending.{Ending}
use Rattle.xl_heartbeat.specs.Outputs.{output}
use Rattle.xl_workers.specs.Working.{TookLast}
use Rattle.xl_workers.proofs.Lives.{took_away}
use Rattle.xl_workers.proofs.living.take_last.Goals as goal

pub returns-in-WriteFault-clause-last : goal.returns-in-WriteFault-clause-last
returns-in-WriteFault-clause-last g c =
    let start = start_of c.args.store.now in
    let turns = turns_of c.args.store.now in
    let o = output (g.O.Sink.held c.args.sink.now) (g.O.Sink.faults c.args.sink.now) in
    let old = known c.args.pass.now in
    let new = known c.take_reports.new.pass in
    let last = c.take_reports.result in
    subst (λ (beats : Ending). TookLast start turns beats old o last new o) (sym c.in-WriteFault.is)
    (took_away start turns old new o o last _ _ refl c.take_reports.ensures.takes)
