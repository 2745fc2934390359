use Rattle.std.proofs.Common.{vec_capacity, length, set, sym, ap, subst, ◌∙◌, arith}
use Rattle.std.proofs.lemmas.List.{length-map}
use Rattle.xl_base.specs.Sets.{IsRising}
use Rattle.xl_disputes.specs.Rows.{ids_of}
use Rattle.xl_disputes.specs.Pooled.{row_of}
use Rattle.xl_disputes.proofs.Pooling.{set_rows, set_pooled}
use Rattle.xl_disputes.proofs.rows.Rows.set.Goals as goal

pub invariant_of-self : goal.invariant_of-self
invariant_of-self c =
    set_pooled c.self.inside.pool c.self.inside.order.items (vec_capacity c.self.inside.order) c.args.place c.index.result.now c.self.invariant
    (omega (arith, c.requires.within, ap length c.self.view_is, length-map c.self.inside.order.items (row_of c.self.inside.pool)))
    (subst (λ rows. IsRising (ids_of rows)) (sym c.self.view_is) c.requires.apart) c.index.ensures c.args.row

pub returns : goal.returns
returns c =
    set_rows c.self.inside.pool c.self.inside.order.items (vec_capacity c.self.inside.order) c.args.place c.index.result.now c.self.invariant
    (omega (arith, c.requires.within, ap length c.self.view_is, length-map c.self.inside.order.items (row_of c.self.inside.pool)))
    (subst (λ rows. IsRising (ids_of rows)) (sym c.self.view_is) c.requires.apart) c.index.ensures c.args.row
    ∙ ap (λ rows. set rows c.args.place c.args.row) c.self.view_is
