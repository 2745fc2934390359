use Rattle.std.proofs.Common.{◌≡◌, ◌++◌, ◌-◌}
use Rattle.std.specs.List.{flat_map}
use Rattle.std.specs.String.{string_bytes}
use Rattle.xl_world.specs.Plans.{up_from}
use Rattle.xl_replay.specs.Texts.{short_pair}
use Rattle.xl_replay.proofs.ends.push_shorts_of.Given as goal

-- the pairs with the numbers so far
abbrev pub invariant-loop-j : goal.invariant-loop-j
invariant-loop-j l = string_bytes l.text ≡ string_bytes l.initial.text ++ flat_map (λ j. short_pair l.world l.i j) (up_from l.i (l.j - l.i))
