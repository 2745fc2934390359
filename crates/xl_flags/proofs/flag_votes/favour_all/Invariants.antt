use Rattle.std.proofs.Common.{◌≡◌, ◌++◌, map, take, drop}
use Rattle.xl_flags.specs.Kept.{favoured_by}
use Rattle.xl_flags.proofs.flag_votes.favour_all.Given as goal

-- those so far are favoured or not
abbrev pub invariant-loop-place : goal.invariant-loop-place
invariant-loop-place l = l.amendments ≡ map (favoured_by l.member l.ids) (take l.place l.initial.amendments) ++ drop l.place l.initial.amendments
