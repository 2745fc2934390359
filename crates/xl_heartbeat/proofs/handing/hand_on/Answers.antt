-- without a batch nothing is handed on
use Rattle.std.proofs.Common.{Option, sym, subst}
use Rattle.std.specs.Option.{option_to_list}
use Rattle.xl_store.specs.declared.retention.Batch.{Batch}
use Rattle.xl_store.specs.Recording.{RecordsIf}
use Rattle.xl_heartbeat.proofs.Recording.{records_none}
use Rattle.xl_heartbeat.proofs.handing.hand_on.Goals as goal

pub returns-in-None : goal.returns-in-None
returns-in-None g c =
    let records = g.R.Recorder.records in
    let recorder = c.args.recorder.now in
    subst (λ (batch : Option Batch). RecordsIf records (option_to_list batch) recorder recorder) (sym c.in-None.is)
    (records_none records recorder)
