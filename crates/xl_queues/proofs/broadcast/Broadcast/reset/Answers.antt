use Rattle.std.proofs.Common.{ap}
use Rattle.circular_buffer.specs.Buffer.{Buffer}
use Rattle.xl_queues.proofs.Broadcasting.{at_first}
use Rattle.xl_queues.proofs.AllAccounting.{none_accounted}
use Rattle.xl_queues.proofs.broadcast.Broadcast.reset.Goals as goal

pub returns : goal.returns
returns g c =
    let empty = at_first g.row.N g.row.R c.clear.new.self.items (ap (λ (b : Buffer _). b.items) c.clear.ensures) in
    record { empty = empty; accounted = none_accounted g.row.R _ empty }
