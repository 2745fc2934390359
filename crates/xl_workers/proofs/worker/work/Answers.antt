use Rattle.xl_workers.proofs.worker.work.Goals as goal

pub returns : goal.returns
returns g c = record {
  served = record { pass = c.attend.ensures.pass; why = c.attend.result; serves = c.attend.ensures.serves };
}
