use Rattle.std.proofs.Common.{length, sym, ◌∙◌, ap}
use Rattle.xl_lists.specs.Lists.{TrustedList}
use Rattle.xl_lists.proofs.list.List.len.Goals as goal

pub returns-clause-value : goal.returns-clause-value
returns-clause-value c = sym c.self.invariant.count ∙ ap (λ (list : TrustedList). length list.members) c.self.view_is
