use Rattle.xl_sched.proofs.reader.Reader.worded_line.Goals as goal

pub returns-in-Some-clause-fit : goal.returns-in-Some-clause-fit
returns-in-Some-clause-fit c = c.put_setting.ensures.fit c.args.sent
