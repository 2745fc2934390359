use Rattle.std.proofs.Common.{◌≡◌, ◌+◌, ◌≤◌, ◌++◌, map, take, drop, vec_len, vec_capacity}
use Rattle.std.specs.List.{flat_map}
use Rattle.xl_flags.specs.Kept.{after_report, row_news}
use Rattle.xl_flags.proofs.flag_votes.report_all.Given as goal

-- those so far are reported, and said
abbrev pub invariant-loop-place : goal.invariant-loop-place
invariant-loop-place l = record {
  rows : l.amendments ≡ map (after_report l.node l.close l.counted) (take l.place l.initial.amendments) ++ drop l.place l.initial.amendments;
  said : l.lines.items ≡ l.initial.lines.items ++ flat_map (row_news l.node l.seq l.close l.counted) (take l.place l.initial.amendments);
  room : vec_len l.lines ≤ vec_len l.initial.lines + l.place;
  capacity : vec_capacity l.lines ≡ vec_capacity l.initial.lines;
}
