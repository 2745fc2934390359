use Rattle.std.proofs.Common.{◌≡◌, map, take}
use Rattle.xl_closetime.specs.Rounding.{round_close}
use Rattle.xl_closetime.proofs.choice.round_all.Given as goal

abbrev pub invariant-loop-place : goal.invariant-loop-place
invariant-loop-place l = take l.place l.room ≡ map (λ t. round_close t l.r) (take l.place l.times)
