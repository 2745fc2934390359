use Rattle.std.proofs.Common.{◌∙◌, ap, sym}
use Rattle.xl_world.specs.World.{World, core_in}
use Rattle.xl_world.proofs.Ending.{kept_left}
use Rattle.xl_world.proofs.Keyed.{keyed}
use Rattle.xl_world.proofs.Reporters.{none_declared}
use Rattle.xl_world.proofs.world.World.node.Goals as goal

pub returns-clause-core : goal.returns-clause-core
returns-clause-core c = c.core_of.ensures ∙ ap (λ (w : World). core_in w c.args.node) c.self.view_is

pub returns-clause-spent : goal.returns-clause-spent
returns-clause-spent c = λ h.
    c.core_of.ensures
    ∙ (ap (λ (w : World). core_in w c.args.node) c.self.view_is
    ∙ ap (λ (w : World). core_in w c.args.node) (kept_left c.self.inside.spent c.self.inside.network c.args.self.now c.self.view_is c.self.invariant.kept h).2)

pub returns-clause-none : goal.returns-clause-none
returns-clause-none c = λ shared liars plan steps is.
    let its = c.core_of.ensures ∙ (ap (λ (w : World). core_in w c.args.node) c.self.view_is ∙ ap (λ (w : World). core_in w c.args.node) is) in
    let both = none_declared shared liars plan steps c.args.node in
    (λ h. both.0 (sym its ∙ h), λ h. its ∙ both.1 h)

pub returns-clause-keys : goal.returns-clause-keys
returns-clause-keys c = λ core is.
    keyed c.self.inside.spent c.self.inside.network c.self.invariant.kept c.args.node core (ap (λ (w : World). core_in w c.args.node) c.self.view_is ∙ is)
