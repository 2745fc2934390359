use Rattle.std.proofs.Common.{sym, subst}
use Rattle.xl_core.specs.Core.{Core}
use Rattle.xl_core.specs.Stops.{IsCovered}
use Rattle.xl_core.proofs.the_core.Core.greet.Goals as goal

pub returns-clause-stop : goal.returns-clause-stop
returns-clause-stop g c = λ held was.
    subst (λ (a : Core). IsCovered held (record a { greetings = c.greet.new.greetings })) (sym c.self.view_is) (record { saved = was.saved; own = was.own; waiting = was.waiting })
