use Rattle.xl_sched.proofs.PlaceLemmas.{looks_up-inserted}
use Rattle.xl_sched.proofs.places.Places.insert_name.Goals as goal

pub returns-clause-names : goal.returns-clause-names
returns-clause-names c = λ other. looks_up-inserted (λ key. key.items) other _ _ c.args.place _ _ c.in_ok-from_slice.ensures.items c.in_ok-insert.ensures.entries
