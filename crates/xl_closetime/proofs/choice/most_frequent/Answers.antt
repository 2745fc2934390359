use Rattle.std.proofs.Common.{get_or, refl}
use Rattle.xl_closetime.proofs.MostFrequent.{most_frequent_front}
use Rattle.xl_closetime.proofs.choice.most_frequent.Goals as goal

pub loop-time-preserved : goal.loop-time-preserved
loop-time-preserved c =
    most_frequent_front c.args.times.now c.loop-time.time-index c.loop-time.most
    (record { time = get_or c.args.times.now c.loop-time.time-index 0; count = c.occurrences-count.result })
    c.or_later-most.result c.loop-time-test.true refl c.occurrences-count.ensures c.or_later-most.ensures c.loop-time.invariant
