use Rattle.std.proofs.Common.{set, ap, get_or, ◌∙◌, arith}
use Rattle.std.proofs.lemmas.List.{get_or_default}
use Rattle.std.proofs.lemmas.List.Edits.{map_over_more}
use Rattle.xl_queues.specs.declared.broadcast.Reader.{Reader}
use Rattle.xl_queues.specs.Broadcasts.{counted_anew}
use Rattle.xl_queues.proofs.broadcast.count_anew.Goals as goal

abbrev any : Reader
any = record { read = 0; lost = 0 }

pub loop-reader-preserved : goal.loop-reader-preserved
loop-reader-preserved c =
    let f = counted_anew c.args.held c.args.pushed in
    let i = c.loop-reader.reader-index in
    let r : Reader = get_or c.loop-reader.readers i any in
    ap (set c.loop-reader.readers i) c.counted_anew.ensures
    ∙ map_over_more f c.args.readers.now c.loop-reader.readers i r c.loop-reader-test.true c.loop-reader.invariant
    (get_or_default c.loop-reader.readers i any r (omega (arith, c.loop-reader-test.true, c.loop-reader.auto.readers)))
