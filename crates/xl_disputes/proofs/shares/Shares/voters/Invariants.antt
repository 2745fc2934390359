use Rattle.std.proofs.Common.{◌≡◌, ◌*◌, ◌≤◌, take, sum_by}
use Rattle.xl_disputes.proofs.shares.Shares.voters.Given as goal

-- the weights so far are added
abbrev pub invariant-loop-place : goal.invariant-loop-place
invariant-loop-place l = record {
  all : l.place-items ≡ l.self;
  sum : l.sum ≡ sum_by (λ h. h.weight) (take l.place-index l.place-items);
  few : l.sum ≤ l.place-index * 64;
}
