use Rattle.std.proofs.Common.{◌≡◌, length, take}
use Rattle.xl_core.proofs.node.deliberating.copy_ids.Given as goal

-- the ids so far stand in the room
abbrev pub invariant-loop-place : goal.invariant-loop-place
invariant-loop-place l = record {
  copied : take l.place l.room ≡ take l.place l.ids;
  room : length l.room ≡ length l.initial.room;
}
