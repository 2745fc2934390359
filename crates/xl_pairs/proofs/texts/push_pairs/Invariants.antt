use Rattle.std.proofs.Common.{◌≡◌, ◌++◌, ◌-◌}
use Rattle.std.specs.List.{flat_map}
use Rattle.std.specs.String.{string_bytes}
use Rattle.xl_pairs.specs.Texts.{list_in, pairs_of, up_from}
use Rattle.xl_pairs.proofs.texts.push_pairs.Given as goal

-- the pairs of the numbers so far
abbrev pub invariant-loop-i : goal.invariant-loop-i
invariant-loop-i l = string_bytes l.text ≡ string_bytes l.initial.text ++ flat_map (λ i. pairs_of l.liars l.nodes i (list_in l.nodes i)) (up_from 1 (l.i - 1))
