use Rattle.std.proofs.Common.{List, sym, ap, ◌∙◌}
use Rattle.xl_negative.specs.Ringing.{Places, ring_keeping}
use Rattle.xl_negative.specs.Seats.{Seat, with_hearing}
use Rattle.xl_negative.proofs.Taking.{hears_next}
use Rattle.xl_negative.proofs.seats.Seats.hear.Goals as goal

pub loop-one-preserved : goal.loop-one-preserved
loop-one-preserved c =
    c.in_ok-hear_one.ensures ∙ ap (λ (seats : List (Seat Places)). with_hearing ring_keeping seats c.one-item.result) c.loop-one.invariant
    ∙ sym (hears_next c.args.self.now c.args.heard.now c.loop-one.one-index c.one-item.result c.loop-one-test.true c.one-item.is)
