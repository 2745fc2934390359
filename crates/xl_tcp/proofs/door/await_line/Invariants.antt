use Rattle.std.proofs.Common.{◌≡◌, length}
use Rattle.xl_tcp.proofs.door.await_line.Given as goal

abbrev pub invariant-loop : goal.invariant-loop
invariant-loop g l = length l.room ≡ length l.initial.room
