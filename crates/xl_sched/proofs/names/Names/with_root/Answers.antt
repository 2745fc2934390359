use Rattle.std.proofs.Common.{◌≤◌, IfSome}
use Rattle.std.proofs.lemmas.List.Elements.{All-nil}
use Rattle.xl_sched.proofs.NameLemmas.{AreFirst-none}
use Rattle.xl_sched.proofs.names.Names.with_root.Goals as goal

pub invariant_of-names : goal.invariant_of-names
invariant_of-names c = rw c.new.ensures.items (
  AreFirst-none c.new-2.result c.new-2.ensures.names c.new-2.ensures.ids,
  All-nil (λ n. IfSome n.header (λ h. h.seq ≤ 0)),
)
