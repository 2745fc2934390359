use Rattle.std.proofs.Common.{◌≡◌}
use Rattle.xl_publish.specs.Forces.{is_supported}
use Rattle.xl_lists.proofs.Rising.{passed}
use Rattle.xl_publish.proofs.publishers.Publishers.members_at.Given as goal

abbrev pub invariant-loop-number : goal.invariant-loop-number
invariant-loop-number l = l.members ≡ passed (is_supported l.self.kept l.now l.threshold) l.number
