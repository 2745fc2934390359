-- without a bulletin nothing is told
use Rattle.xl_turns.specs.Passes.{known}
use Rattle.xl_store.specs.Stores.{start_of}
use Rattle.xl_heartbeat.proofs.Telling.{still_told}
use Rattle.xl_heartbeat.proofs.reporting.take_and_tell.Goals as goal

pub returns-in-None-clause-told : goal.returns-in-None-clause-told
returns-in-None-clause-told g c first t =
    still_told g.D.Board.show_gives (start_of c.args.store.now) first c.args.outlets.now.bulletin (known c.args.pass.now).seen
    (known c.take_reports.new.pass).seen c.take_reports.ensures.takes.made.begins t
