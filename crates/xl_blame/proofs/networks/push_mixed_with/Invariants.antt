use Rattle.std.proofs.Common.{◌≡◌, ◌+◌, ◌++◌, drop}
use Rattle.xl_blame.specs.Networks.{mixed_with}
use Rattle.xl_blame.proofs.networks.push_mixed_with.Given as goal

-- the pairs so far, and those that are to come
abbrev pub invariant-loop-end : goal.invariant-loop-end
invariant-loop-end l = record {
  found : l.found.items ++ mixed_with l.number l.keys l.other (drop l.end-index l.behind)
      ≡ l.initial.found.items ++ mixed_with l.number l.keys l.next l.behind;
  at : l.other ≡ l.next + l.end-index;
}
