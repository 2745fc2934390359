use Rattle.std.proofs.Common.{sym, subst}
use Rattle.xl_rounds.specs.Rest.{AreKept}
use Rattle.xl_rounds.proofs.KeptLaws.{none_kept}
use Rattle.xl_rounds.proofs.kept.Kept.clear.Goals as goal

pub invariant_of-self : goal.invariant_of-self
invariant_of-self c = subst (AreKept 0) (sym c.remove_marked.ensures) none_kept
