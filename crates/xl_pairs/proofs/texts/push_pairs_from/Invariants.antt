use Rattle.std.proofs.Common.{◌≡◌, ◌++◌, ◌-◌}
use Rattle.std.specs.List.{flat_map}
use Rattle.std.specs.String.{string_bytes}
use Rattle.xl_pairs.specs.Texts.{list_in, pair_with, up_from}
use Rattle.xl_pairs.proofs.texts.push_pairs_from.Given as goal

-- the pairs with the numbers so far
abbrev pub invariant-loop-j : goal.invariant-loop-j
invariant-loop-j l = string_bytes l.text ≡ string_bytes l.initial.text ++ flat_map (λ j. pair_with l.liars l.i l.a j (list_in l.nodes j)) (up_from l.i (l.j - l.i))
