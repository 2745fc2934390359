use Rattle.xl_sched.proofs.reader.Reader.put_setting.Goals as goal

pub returns-clause-fit : goal.returns-clause-fit
returns-clause-fit c = λ sent. c.in_ok-setting.ensures.fit sent
