use Rattle.std.proofs.Common.{◌≡◌, vec_capacity}
use Rattle.xl_rounds.proofs.Walking.{IsWalked}
use Rattle.xl_rounds.proofs.pending.drop_accepted.Given as goal

-- both lists are walked so far
abbrev pub invariant-loop-place : goal.invariant-loop-place
invariant-loop-place l = record {
  walked : IsWalked l.accepted l.fn.ids.items l.ids.items l.rest l.place l.left;
  room : vec_capacity l.ids ≡ vec_capacity l.fn.ids;
}
