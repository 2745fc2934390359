-- a new id takes the place, and another gets back the one that it had
use Rattle.std.proofs.Common.{◌≡◌, Some, None, cond, ap, refl, rules, ◌∙◌}
use Rattle.std.specs.Str.{bytes_eq}
use Rattle.xl_sched.specs.Places.{place_of_id}
use Rattle.xl_sched.proofs.PlaceLemmas.{looks_up-inserted, none_too, same_too, with_place-again, with_place-new}
use Rattle.xl_sched.proofs.places.Places.insert_id.Goals as goal

pub returns-in_ok-insert-clause-ids : goal.returns-in_ok-insert-clause-ids
returns-in_ok-insert-clause-ids c = λ other.
    let had : place_of_id c.args.self.now c.args.id.now ≡ Some c.in-Some.first = search rules in
    looks_up-inserted (λ key. key.0) other c.args.id.now _ c.in-Some.first _ _ refl c.in_ok-insert.ensures.entries
    ∙ ap (cond (bytes_eq other c.args.id.now) (Some c.in-Some.first))
    (looks_up-inserted (λ key. key.0) other c.args.id.now _ c.args.place _ _ refl c.in_ok-first.ensures.entries)
    ∙ with_place-again (place_of_id c.args.self.now other) (bytes_eq other c.args.id.now) c.args.place c.in-Some.first
    (same_too (place_of_id c.args.self.now) other c.args.id.now (Some c.in-Some.first) had)

pub returns-in_default-clause-ids : goal.returns-in_default-clause-ids
returns-in_default-clause-ids c = λ other.
    let absent : place_of_id c.args.self.now c.args.id.now ≡ None = search rules in
    looks_up-inserted (λ key. key.0) other c.args.id.now _ c.args.place _ _ refl c.in_ok-first.ensures.entries
    ∙ with_place-new (place_of_id c.args.self.now other) (bytes_eq other c.args.id.now) c.args.place (none_too (place_of_id c.args.self.now) other c.args.id.now absent)
