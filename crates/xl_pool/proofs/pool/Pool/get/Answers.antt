use Rattle.std.proofs.Common.{◌≡◌, ◌≢◌, ◌≤◌, ◌<◌, get_or, length, sym, subst, arith}
use Rattle.std.proofs.lemmas.Bool.Decides.{nat_tests}
use Rattle.xl_pool.proofs.Untouched.{get_other, nothing_behind}
use Rattle.xl_pool.proofs.pool.Pool.get.Goals.{in_default-via-in-Some+else-entry-name, in_default-via-in_default}
use Rattle.xl_pool.proofs.pool.Pool.get.Goals as goal

pub returns-in_default : goal.returns-in_default
returns-in_default g c =
    elim c.in_default.branch [
      | in_default-via-in-Some+else-entry-name w ↦
          let here = subst (λ xs. c.args.name.slot < length xs) c.deref.ensures.value w.in-Some.ensures.lookup.3.0 in
          let read = subst (λ xs. w.in-Some.entry.now ≡ get_or xs c.args.name.slot w.in-Some.entry.now) c.deref.ensures.value w.in-Some.ensures.lookup.1 in
          let differs : w.in-Some.entry.now.generation ≢ c.args.name.generation = grind (arith, nat_tests) in
          rw (← c.self.view_is) (sym (get_other c.self.inside.entries.items c.self.inside.slots c.args.name w.in-Some.entry.now here read differs))
      | in_default-via-in_default w ↦
          let past = subst (λ xs. length xs ≤ c.args.name.slot) c.deref.ensures.value w.in_default.ensures.lookup.3 in
          rw (← c.self.view_is) (sym (nothing_behind c.self.inside.entries.items c.self.inside.slots c.args.name past))
    ]
