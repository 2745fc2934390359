use Rattle.std.proofs.Common.{Some, subst, sym}
use Rattle.xl_rounds.specs.Rest.{AreKept}
use Rattle.xl_rounds.proofs.KeptLaws.{put_kept}
use Rattle.xl_rounds.proofs.kept.Kept.put.Goals as goal

pub invariant_of-self : goal.invariant_of-self
invariant_of-self c =
    put_kept c.self.inside.marks c.deref_mut.result.now (subst (AreKept c.self.inside.marks) (sym c.deref_mut.ensures.value) c.self.invariant) c.args.place c.requires (Some c.args.p.now)
