use Rattle.xl_sched.proofs.reader.Reader.all.Goals as goal

pub returns-clause-fit : goal.returns-clause-fit
returns-clause-fit c = λ sent. c.happen.ensures.fit sent tt
