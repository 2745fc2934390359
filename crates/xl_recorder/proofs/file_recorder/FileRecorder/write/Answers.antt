-- one that goes on takes what its batch comes to, and one that has ended stays so
use Rattle.xl_recorder.specs.Parts.{part}
use Rattle.xl_recorder.proofs.Taking.{takes_if_going, takes_if_over}
use Rattle.xl_recorder.proofs.file_recorder.FileRecorder.write.Goals as goal

pub returns-in-Goes : goal.returns-in-Goes
returns-in-Goes g c =
    takes_if_going c.args.self.now.stage c.in-Goes.lines c.write_batch.new.lines
    (part c.args.self.now.room (g.S.Sink.held c.args.self.now.sink) (g.S.Sink.faults c.args.self.now.sink))
    (part c.write_batch.new.room (g.S.Sink.held c.write_batch.new.sink) (g.S.Sink.faults c.write_batch.new.sink))
    c.args.batch c.write_batch.result c.in-Goes.is
    (λ differs.
    let it = c.write_batch.ensures.apart differs in
    λ i. part (it.1 i) (g.S.Sink.held (it.2 i)) (g.S.Sink.faults (it.2 i)))
    c.write_batch.ensures.behind c.write_batch.ensures.written

pub returns-in-Ended : goal.returns-in-Ended
returns-in-Ended g c =
    takes_if_over c.args.self.now.stage c.in-Ended.why
    (part c.args.self.now.room (g.S.Sink.held c.args.self.now.sink) (g.S.Sink.faults c.args.self.now.sink)) c.args.batch
    c.in-Ended.is
