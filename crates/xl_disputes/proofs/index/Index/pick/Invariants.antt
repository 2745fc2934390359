use Rattle.std.proofs.Common.{◌≡◌, ◌≤◌, take, filter, vec_len, vec_capacity}
use Rattle.xl_disputes.specs.Rows.{ids_of}
use Rattle.xl_disputes.specs.Standings.{wins}
use Rattle.xl_disputes.proofs.index.Index.pick.Given as goal

-- of the rows so far those that pass are picked
abbrev pub invariant-loop-place : goal.invariant-loop-place
invariant-loop-place l = record {
  picked : l.next.items ≡ take 256 (ids_of (filter (wins l.voters l.needed l.proposing) (take l.place l.self)));
  few : vec_len l.next ≤ 256;
  room : vec_capacity l.next ≡ vec_capacity l.fn.next;
}
