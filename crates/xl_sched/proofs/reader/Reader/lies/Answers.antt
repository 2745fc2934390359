use Rattle.xl_sched.proofs.reader.Reader.lies.Goals as goal

pub returns-clause-fit : goal.returns-clause-fit
returns-clause-fit c = λ sent. c.happen.ensures.fit sent (c.requires.pair, c.requires.lie)
