-- a name still finds its row exactly if that row is held, and the names that stay keep their order
use Rattle.std.proofs.Common.{rules, ◌≡◌, vec_capacity, length, ap, ◌∙◌, subst, arith}
use Rattle.std.specs.Prelude.{filter, is_some}
use Rattle.std.proofs.lemmas.Fn.{filter_same}
use Rattle.xl_pool.specs.Pools.{get}
use Rattle.xl_disputes.specs.Rows.{is_held}
use Rattle.xl_disputes.specs.Pooled.{IsSwept}
use Rattle.xl_disputes.proofs.Sweeping.{swept_rows, swept_pooled}
use Rattle.xl_disputes.proofs.rows.Rows.sweep.Goals as goal
use Rattle.xl_disputes.proofs.rows.Rows.sweep.Goals.{After-retain}

swept : (c : After-retain) → IsSwept c.self.inside.pool c.give_all_back.new.pool c.self.inside.order.items (length c.self.inside.order.items)
swept c = subst (λ names. IsSwept c.self.inside.pool c.give_all_back.new.pool names (length names)) c.deref.ensures.value c.give_all_back.ensures

left : (c : After-retain) → c.retain.new.self.items ≡ filter (λ n. is_some (get c.give_all_back.new.pool n)) c.self.inside.order.items
left c = filter_same _ _ _ (λ x b f' k. search rules) _ _ c.retain.ensures.filtered

pub invariant_of-self : goal.invariant_of-self
invariant_of-self c =
    swept_pooled c.self.inside.pool c.give_all_back.new.pool c.self.inside.order.items c.retain.new.self.items (vec_capacity c.self.inside.order) (vec_capacity c.retain.new.self)
    c.self.invariant (swept c) (left c) (omega (arith, c.retain.ensures.capacity, c.self.invariant.roomy))

pub returns : goal.returns
returns c =
    swept_rows c.self.inside.pool c.give_all_back.new.pool c.self.inside.order.items c.retain.new.self.items (vec_capacity c.self.inside.order) (vec_capacity c.retain.new.self)
    c.self.invariant (swept c) (left c) (omega (arith, c.retain.ensures.capacity, c.self.invariant.roomy))
    ∙ ap (filter is_held) c.self.view_is
