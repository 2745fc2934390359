use Rattle.std.proofs.Common.{refl, ◌∙◌}
use Rattle.xl_disputes.proofs.Ordered.{alike}
use Rattle.xl_disputes.proofs.set.Set.is.Goals as goal

pub returns : goal.returns
returns c =
    λ told. alike c.args.self.now c.args.ids.now c.as_slice.result.now c.args.ids.now c.eq.result (c.as_slice.ensures.value ∙ c.self.view_is) refl c.eq.ensures told
