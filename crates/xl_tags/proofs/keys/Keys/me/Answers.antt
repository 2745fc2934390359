use Rattle.std.proofs.Common.{subst}
use Rattle.xl_tags.specs.Rings.{Ring, IsRing}
use Rattle.xl_tags.proofs.SourceLaws.{is_ring}
use Rattle.xl_tags.proofs.keys.Keys.me.Goals as goal

pub returns-clause-ring : goal.returns-clause-ring
returns-clause-ring c = subst (λ (r : Ring). IsRing r) c.self.view_is (is_ring c.self.inside.me c.self.inside.of_schedule c.self.inside.prepared c.self.invariant)
