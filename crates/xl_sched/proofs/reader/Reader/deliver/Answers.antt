use Rattle.xl_sched.proofs.reader.Reader.deliver.Goals as goal

pub returns-clause-fit : goal.returns-clause-fit
returns-clause-fit c = c.happen.ensures.fit c.args.sent c.in_ok-place.ensures.sent
