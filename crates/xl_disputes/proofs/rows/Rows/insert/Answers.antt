use Rattle.std.proofs.Common.{vec_capacity, ap, ◌∙◌, arith}
use Rattle.std.specs.List.{insert}
use Rattle.xl_disputes.proofs.Pooling.{insert_rows, insert_pooled}
use Rattle.xl_disputes.proofs.rows.Rows.insert.Goals as goal

pub invariant_of-self : goal.invariant_of-self
invariant_of-self c =
    insert_pooled c.self.inside.pool c.self.inside.order.items (vec_capacity c.self.inside.order) c.args.place c.in-Ok.name c.args.row c.self.invariant
    c.take.new.self c.insert.new.self.items (vec_capacity c.insert.new.self) c.in-Ok.ensures.fresh c.in-Ok.ensures.names c.in-Ok.ensures.added c.in-Ok.ensures.more c.in-Ok-insert.ensures.items
    (omega (arith, c.in-Ok-insert.ensures.capacity, c.self.invariant.roomy))

pub returns : goal.returns
returns c =
    insert_rows c.self.inside.pool c.self.inside.order.items (vec_capacity c.self.inside.order) c.args.place c.in-Ok.name c.args.row c.self.invariant
    c.take.new.self c.insert.new.self.items (vec_capacity c.insert.new.self) c.in-Ok.ensures.fresh c.in-Ok.ensures.names c.in-Ok.ensures.added c.in-Ok.ensures.more c.in-Ok-insert.ensures.items
    (omega (arith, c.in-Ok-insert.ensures.capacity, c.self.invariant.roomy))
    ∙ ap (λ rows. insert rows c.args.place c.args.row) c.self.view_is
