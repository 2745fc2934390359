use Rattle.std.specs.String.{string_bytes}
use Rattle.xl_sched.specs.declared.event.What.TheVariants.{All, Timers}
use Rattle.xl_voting.proofs.Happening.{happened}
use Rattle.xl_voting.proofs.voter.Voter.happen.Goals as goal

pub returns-in-All : goal.returns-in-All
returns-in-All c =
    happened c.args.self.now.running c.args.self.now.tally c.args.event.now c.deliver_all.new.self.running c.deliver_all.new.self.tally (string_bytes c.args.text.now) (string_bytes c.deliver_all.new.text)
    c.requires.empty All c.in-All.is c.deliver_all.result c.deliver_all.ensures.world c.deliver_all.ensures.said

pub returns-in-Timers : goal.returns-in-Timers
returns-in-Timers c =
    happened c.args.self.now.running c.args.self.now.tally c.args.event.now c.time_all.new.self.running c.time_all.new.self.tally (string_bytes c.args.text.now) (string_bytes c.time_all.new.text)
    c.requires.empty Timers c.in-Timers.is c.time_all.result c.time_all.ensures.world c.time_all.ensures.said
