-- an id that isn't among them goes behind all that are below it, so they still rise, and there is room
use Rattle.std.proofs.Common.{◌≡◌, arith, ap, ◌∙◌, subst, sym, length}
use Rattle.std.specs.Prelude.{is_ok, insert}
use Rattle.std.proofs.lemmas.Bool.{cond-true}
use Rattle.xl_base.specs.Sets.{IsSet}
use Rattle.xl_disputes.specs.Rising.{with_tx}
use Rattle.xl_rounds.proofs.RisingLaws.{IsSet-with_tx, submitted}
use Rattle.xl_rounds.proofs.pending.Pending.submit.Goals as goal
use Rattle.xl_rounds.proofs.pending.Pending.submit.Goals.{After-insert}

pub insert-requires : goal.insert-requires
insert-requires c = omega (arith, c.count_below-place.ensures.within, c.deref-2.ensures.len, ap length c.deref-2.ensures.value, c.self.inside.ids.ok.0)

inserted : (c : After-insert) → c.insert.new.self.items ≡ with_tx c.args.tx c.self.inside.ids.items
inserted c =
    let ids = c.self.inside.ids in
    submitted c.args.tx ids.items c.deref.result.now c.deref-2.result.now c.insert.new.self.items c.count_below-place.result c.is_among.result c.deref.ensures.value c.deref-2.ensures.value
    c.is_among.ensures c.if-is_among.false c.count_below-place.ensures.value
    (c.insert.ensures.items ∙ cond-true (is_ok c.insert.result) (insert ids.items c.count_below-place.result c.args.tx) ids.items (c.insert.ensures.succeeds (omega (arith, c.self.invariant.room))))

pub returns-clause-taken : goal.returns-clause-taken
returns-clause-taken c = inserted (goal.at.returns-clause-taken c).After-insert ∙ ap (with_tx c.args.tx) c.self.view_is

pub invariant_of-self : goal.invariant_of-self
invariant_of-self c =
    let ids = c.self.inside.ids in
    record {
      set = subst IsSet (sym (inserted (goal.at.invariant_of-self c).After-insert)) (IsSet-with_tx c.args.tx ids.items c.self.invariant.set (omega (arith, ids.ok.0)));
      room = omega (arith, c.insert.ensures.capacity, c.self.invariant.room);
    }
