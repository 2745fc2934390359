use Rattle.std.proofs.Common.{◌≡◌, length, map, take}
use Rattle.std.specs.List.{range_with_len}
use Rattle.xl_status.specs.Hearings.{last_heard_at}
use Rattle.xl_status.proofs.hearing.Hearing.note.Given as goal

-- the places so far tell when their numbers were last heard
abbrev pub invariant-loop-place : goal.invariant-loop-place
invariant-loop-place l = record {
  long : length l.at ≡ 64;
  told : take l.place l.at ≡ map (last_heard_at l.self l.status) (range_with_len 0 l.place);
}
