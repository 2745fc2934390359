use Rattle.std.proofs.Common.{◌≡◌, map, take, drop, ◌++◌}
use Rattle.xl_disputes.specs.Holdings.{no_holding}
use Rattle.xl_disputes.proofs.shares.reset_all.Given as goal

-- the places so far have none, and the others are as they were
abbrev pub invariant-loop-place : goal.invariant-loop-place
invariant-loop-place l = l.places ≡ map (λ h. no_holding h.bit) (take l.place-index l.initial.places) ++ drop l.place-index l.initial.places
