use Rattle.std.proofs.Common.{◌≡◌, ◌++◌, ◌-◌}
use Rattle.std.specs.List.{flat_map}
use Rattle.std.specs.String.{string_bytes}
use Rattle.xl_world.specs.Plans.{up_from}
use Rattle.xl_replay.specs.Texts.{shorts_of}
use Rattle.xl_replay.proofs.ends.push_shorts.Given as goal

-- the pairs of the numbers so far
abbrev pub invariant-loop-i : goal.invariant-loop-i
invariant-loop-i l = string_bytes l.text ≡ string_bytes l.initial.text ++ flat_map (λ i. shorts_of l.world i) (up_from 1 (l.i - 1))
