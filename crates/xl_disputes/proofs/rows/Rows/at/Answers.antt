use Rattle.std.proofs.Common.{◌≡◌, ◌<◌, Some, vec_capacity, length, get_or, sym, ap, ◌∙◌, arith}
use Rattle.std.proofs.lemmas.List.{length-map}
use Rattle.xl_pool.specs.Pools.{get}
use Rattle.xl_disputes.specs.Pooled.{row_of}
use Rattle.xl_disputes.proofs.Pooling.{read_row}
use Rattle.xl_disputes.proofs.rows.Rows.at.Goals as goal

pub returns : goal.returns
returns c =
    let within : c.args.place < length c.self.inside.order.items = omega (arith, c.requires, ap length c.self.view_is, length-map c.self.inside.order.items (row_of c.self.inside.pool)) in
    let found : get c.self.inside.pool (get_or c.self.inside.order.items c.args.place c.index.result.now) ≡ Some c.in-Some.row.now = ap (get c.self.inside.pool) (sym c.index.ensures) ∙ sym c.in-Some.ensures in
    read_row c.self.inside.pool c.self.inside.order.items (vec_capacity c.self.inside.order) c.args.place c.index.result.now c.in-Some.row.now c.self.invariant within found
    ∙ ap (λ rows. get_or rows c.args.place c.in-Some.row.now) c.self.view_is
