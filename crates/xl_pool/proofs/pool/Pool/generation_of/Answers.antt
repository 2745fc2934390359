use Rattle.std.proofs.Common.{◌≤◌, length, sym, subst}
use Rattle.xl_pool.proofs.Untouched.{generation_behind}
use Rattle.xl_pool.proofs.pool.Pool.generation_of.Goals as goal

pub returns-in-None : goal.returns-in-None
returns-in-None g c =
    let past = subst (λ xs. length xs ≤ c.args.slot) c.deref.ensures.value c.in-None.ensures.lookup.3 in
    rw (← c.self.view_is) (sym (generation_behind c.self.inside.entries.items c.self.inside.slots c.args.slot past))
