use Rattle.std.proofs.Common.{◌≡◌, length, map, take}
use Rattle.std.specs.List.{range_with_len}
use Rattle.xl_store.specs.Statuses.{is_heard}
use Rattle.xl_store.proofs.status.heard_in.Given as goal

-- the numbers so far were asked
abbrev pub invariant-loop-place : goal.invariant-loop-place
invariant-loop-place g l = record {
  long : length l.heard ≡ 64;
  told : take l.place l.heard ≡ map (is_heard l.core.node) (range_with_len 1 l.place);
}
