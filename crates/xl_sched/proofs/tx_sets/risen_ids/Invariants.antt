use Rattle.std.proofs.Common.{◌≡◌, length, drop, None}
use Rattle.xl_sched.specs.Tokens.{entries}
use Rattle.xl_sched.specs.TxSets.{risen_ids_of}
use Rattle.xl_sched.proofs.MemberLemmas.{read_on}
use Rattle.xl_sched.proofs.tx_sets.risen_ids.Given as goal

abbrev pub invariant-loop-entry : goal.invariant-loop-entry
invariant-loop-entry l =
    (goal.iterator-loop-entry).can_next l.entry-iterator ×
    (goal.iterator-loop-entry).is_finite l.entry-iterator ×
    (read_on l.ids.items (risen_ids_of l.names l.before (drop (length l.yielded) (entries l.token))) ≡ risen_ids_of l.names None (entries l.token))
