use Rattle.xl_sched.proofs.reader.Reader.event.Goals as goal

pub returns-in-Issue-clause-fit : goal.returns-in-Issue-clause-fit
returns-in-Issue-clause-fit c = c.issue.ensures.fit c.args.sent

pub returns-in-Submit-clause-fit : goal.returns-in-Submit-clause-fit
returns-in-Submit-clause-fit c = c.submit.ensures.fit c.args.sent

pub returns-in-Timer-clause-fit : goal.returns-in-Timer-clause-fit
returns-in-Timer-clause-fit c = c.timer.ensures.fit c.args.sent

pub returns-in-Timers-clause-fit : goal.returns-in-Timers-clause-fit
returns-in-Timers-clause-fit c = c.timers.ensures.fit c.args.sent

pub returns-in-All-clause-fit : goal.returns-in-All-clause-fit
returns-in-All-clause-fit c = c.all.ensures.fit c.args.sent

pub returns-in-Drop-clause-fit : goal.returns-in-Drop-clause-fit
returns-in-Drop-clause-fit c = c.drop.ensures.fit c.args.sent

pub returns-in-Greet-clause-fit : goal.returns-in-Greet-clause-fit
returns-in-Greet-clause-fit c = c.greet.ensures.fit c.args.sent

pub returns-in-Restart-clause-fit : goal.returns-in-Restart-clause-fit
returns-in-Restart-clause-fit c = c.restart.ensures.fit c.args.sent

pub returns-in-Cut-clause-fit : goal.returns-in-Cut-clause-fit
returns-in-Cut-clause-fit c = c.cut.ensures.fit c.args.sent

pub returns-in-Fail-clause-fit : goal.returns-in-Fail-clause-fit
returns-in-Fail-clause-fit c = c.fail.ensures.fit c.args.sent

pub returns-in-Lie-clause-fit : goal.returns-in-Lie-clause-fit
returns-in-Lie-clause-fit c = c.lie.ensures.fit c.args.sent

pub returns-in-Raw-clause-fit : goal.returns-in-Raw-clause-fit
returns-in-Raw-clause-fit c = c.raw.ensures.fit c.args.sent

pub returns-in-Prefer-clause-fit : goal.returns-in-Prefer-clause-fit
returns-in-Prefer-clause-fit c = c.prefer.ensures.fit c.args.sent

pub returns-in-List-clause-fit : goal.returns-in-List-clause-fit
returns-in-List-clause-fit c = c.list.ensures.fit c.args.sent

pub returns-in-Heard-clause-fit : goal.returns-in-Heard-clause-fit
returns-in-Heard-clause-fit c = c.heard.ensures.fit c.args.sent
