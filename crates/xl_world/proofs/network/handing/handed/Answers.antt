-- bytes that are as their sender would seal them are heard as they came
use Rattle.std.proofs.Common.{ℕ, List, ap}
use Rattle.xl_core.specs.declared.event.CoreEvent.TheVariants.{Frame}
use Rattle.xl_world.proofs.network.handing.handed.Goals as goal

pub returns-then-forged-clause-event : goal.returns-then-forged-clause-event
returns-then-forged-clause-event c = λ to known. ap (λ (bytes : List ℕ). Frame c.args.at bytes) (known c.if-forged.true)
