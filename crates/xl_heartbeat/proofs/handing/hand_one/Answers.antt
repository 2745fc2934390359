-- one batch is handed on, or there is no recorder
use Rattle.std.proofs.Common.{[], ◌∷◌, Option, Some, refl, sym, subst}
use Rattle.xl_store.specs.Recording.{RecordsIf}
use Rattle.xl_heartbeat.proofs.Recording.{records_one}
use Rattle.xl_heartbeat.proofs.handing.hand_one.Goals as goal

pub returns-in-Some : goal.returns-in-Some
returns-in-Some g c =
    let records = g.R.Recorder.records in
    let new = c.record.new.self in
    subst (λ (old : Option g.row.R.Denot). RecordsIf records (c.args.batch ∷ []) old (Some new)) (sym c.in-Some.is)
    (records_one records c.args.batch c.in-Some.recorder new c.record.ensures)

pub returns-in-None : goal.returns-in-None
returns-in-None g c =
    subst
    (λ (recorder : Option g.row.R.Denot). RecordsIf g.R.Recorder.records (c.args.batch ∷ []) recorder recorder)
    (sym c.in-None.is) refl
