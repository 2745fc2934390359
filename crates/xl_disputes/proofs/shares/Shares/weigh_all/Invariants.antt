use Rattle.std.proofs.Common.{◌≡◌, take}
use Rattle.xl_disputes.specs.Standings.{weighed}
use Rattle.xl_disputes.proofs.shares.Shares.weigh_all.Given as goal

-- the places so far have their weights
abbrev pub invariant-loop-place : goal.invariant-loop-place
invariant-loop-place l = l.self ≡ weighed (take l.place l.weights) l.fn.self
