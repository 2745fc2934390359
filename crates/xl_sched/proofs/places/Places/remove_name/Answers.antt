use Rattle.std.proofs.Common.{◌∙◌, ap}
use Rattle.std.specs.Map.{lookup}
use Rattle.xl_sched.proofs.PlaceLemmas.{lookup-remove_entry, tests}
use Rattle.xl_sched.proofs.places.Places.remove_name.Goals as goal

pub returns-clause-others : goal.returns-clause-others
returns-clause-others c = λ other apart.
    ap (lookup (tests (λ key. key.items) other)) c.remove.ensures.entries
    ∙ lookup-remove_entry (λ key. key.items) other c.args.name.now c.args.self.now.by_name.entries apart
