use Rattle.std.proofs.Common.{◌≡◌, ◌==◌, ◌||◌}
use Rattle.xl_lists.proofs.Rising.{passed}
use Rattle.xl_settings.specs.Peers.{is_peer}
use Rattle.xl_validator.proofs.naming.nameable.Given as goal

abbrev pub invariant-loop-number : goal.invariant-loop-number
invariant-loop-number l = l.members ≡ passed (λ m. m == l.me || is_peer l.peers m) l.number
