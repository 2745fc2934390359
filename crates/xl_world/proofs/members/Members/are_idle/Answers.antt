use Rattle.std.proofs.Common.{◌≡◌, List, ℕ, subst, true}
use Rattle.std.specs.Prelude.{All}
use Rattle.xl_core.specs.Core.{is_idle}
use Rattle.xl_world.specs.Emptying.{others}
use Rattle.xl_world.proofs.Idling.{others_idle}
use Rattle.xl_world.proofs.members.Members.are_idle.Goals as goal

pub returns : goal.returns
returns c = λ empty.
    subst (λ (numbers : List ℕ). All (λ m. is_idle c.args.core.now m ≡ true) (others numbers c.args.core.now.node.me)) c.self.view_is
    (others_idle c.args.core.now c.self.inside.marks c.self.inside.numbers.items c.self.invariant (c.nothing_left.ensures empty))
