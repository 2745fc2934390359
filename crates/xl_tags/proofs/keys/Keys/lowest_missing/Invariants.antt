use Rattle.std.proofs.Common.{◌+◌, ◌≡◌, ◌-◌}
use Rattle.std.specs.Prelude.{find}
use Rattle.std.specs.List.{range_with_len}
use Rattle.xl_tags.specs.Missing.{is_missing, lowest_missing}
use Rattle.xl_base.specs.Members.{greatest_node_no}
use Rattle.xl_tags.proofs.keys.Keys.lowest_missing.Given as goal

-- what is to be found is among the numbers that are left
abbrev pub invariant-loop-number : goal.invariant-loop-number
invariant-loop-number l = find (is_missing l.self l.list.members) (range_with_len l.number ((greatest_node_no + 1) - l.number)) ≡ lowest_missing l.self l.list.members
