-- rows rise, so each place has a name of its own, and only the row whose name is given back goes
use Rattle.std.proofs.Common.{vec_capacity, length, sym, ap, subst, ◌∙◌, arith}
use Rattle.std.proofs.lemmas.List.{length-map}
use Rattle.std.specs.List.{remove}
use Rattle.xl_base.specs.Sets.{IsRising}
use Rattle.xl_disputes.specs.Rows.{ids_of}
use Rattle.xl_disputes.specs.Pooled.{row_of}
use Rattle.xl_disputes.proofs.Pooling.{remove_rows, remove_pooled}
use Rattle.xl_disputes.proofs.rows.Rows.remove.Goals as goal

pub invariant_of-self : goal.invariant_of-self
invariant_of-self c =
    remove_pooled c.self.inside.pool c.self.inside.order.items (vec_capacity c.self.inside.order) c.args.place c.remove-name.result c.self.invariant
    (omega (arith, c.requires.within, ap length c.self.view_is, length-map c.self.inside.order.items (row_of c.self.inside.pool)))
    (subst (λ rows. IsRising (ids_of rows)) (sym c.self.view_is) c.requires.apart) c.remove-name.ensures.value
    c.give.new.self c.remove-name.new.self.items (vec_capacity c.remove-name.new.self) c.in-Ok.ensures.names c.in-Ok.ensures.removed c.in-Ok.ensures.fewer c.remove-name.ensures.items
    (omega (arith, c.remove-name.ensures.capacity, c.self.invariant.roomy))

pub returns : goal.returns
returns c =
    remove_rows c.self.inside.pool c.self.inside.order.items (vec_capacity c.self.inside.order) c.args.place c.remove-name.result c.self.invariant
    (omega (arith, c.requires.within, ap length c.self.view_is, length-map c.self.inside.order.items (row_of c.self.inside.pool)))
    (subst (λ rows. IsRising (ids_of rows)) (sym c.self.view_is) c.requires.apart) c.remove-name.ensures.value
    c.give.new.self c.remove-name.new.self.items (vec_capacity c.remove-name.new.self) c.in-Ok.ensures.names c.in-Ok.ensures.removed c.in-Ok.ensures.fewer c.remove-name.ensures.items
    (omega (arith, c.remove-name.ensures.capacity, c.self.invariant.roomy))
    ∙ ap (λ rows. remove rows c.args.place) c.self.view_is
