use Rattle.std.proofs.Common.{◌≡◌, ◌-◌}
use Rattle.std.specs.Prelude.{find}
use Rattle.std.specs.List.{range_with_len}
use Rattle.xl_blame.specs.Networks.{differ_at}
use Rattle.xl_blame.proofs.networks.differ_somewhere.Given as goal

-- no member so far has two keys, and the first is among those that are to come
abbrev pub invariant-loop-number : goal.invariant-loop-number
invariant-loop-number l =
    find (differ_at l.one l.other) (range_with_len 1 64) ≡ find (differ_at l.one l.other) (range_with_len l.number (65 - l.number))
