use Rattle.std.proofs.Common.{subst, sym}
use Rattle.xl_rounds.specs.Rest.{AreKept}
use Rattle.xl_rounds.proofs.KeptLaws.{gone_kept}
use Rattle.xl_rounds.proofs.kept.Kept.remove.Goals as goal

pub invariant_of-self : goal.invariant_of-self
invariant_of-self c =
    gone_kept c.self.inside.marks c.deref_mut.result.now (subst (AreKept c.self.inside.marks) (sym c.deref_mut.ensures.value) c.self.invariant) c.args.place c.requires
