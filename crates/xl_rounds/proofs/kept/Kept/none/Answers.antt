use Rattle.std.proofs.Common.{subst, sym}
use Rattle.xl_rounds.specs.Rest.{AreKept}
use Rattle.xl_rounds.proofs.KeptLaws.{none_kept}
use Rattle.xl_rounds.proofs.kept.Kept.none.Goals as goal

pub invariant_of-result : goal.invariant_of-result
invariant_of-result c = subst (AreKept 0) (sym c.in_ok-new.ensures.ok) none_kept
