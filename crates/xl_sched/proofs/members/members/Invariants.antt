use Rattle.std.proofs.Common.{◌≡◌, length, drop}
use Rattle.xl_sched.specs.Tokens.{entries}
use Rattle.xl_sched.specs.Members.{members_of, numbers_of}
use Rattle.xl_sched.proofs.MemberLemmas.{read_on}
use Rattle.xl_sched.proofs.members.members.Given as goal

abbrev pub invariant-loop-entry : goal.invariant-loop-entry
invariant-loop-entry l =
    (goal.iterator-loop-entry).can_next l.entry-iterator ×
    (goal.iterator-loop-entry).is_finite l.entry-iterator ×
    (read_on l.numbers.items (numbers_of (drop (length l.yielded) (entries l.token))) ≡ members_of l.token)
