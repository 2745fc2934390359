use Rattle.std.proofs.Common.{◌≡◌, ◌-◌}
use Rattle.std.specs.Prelude.{filter}
use Rattle.xl_world.specs.Plans.{is_declared, up_from}
use Rattle.xl_world.proofs.open.numbers.Given as goal

-- the declared ones of the numbers so far
abbrev pub invariant-loop-number : goal.invariant-loop-number
invariant-loop-number l = l.numbers.items ≡ filter (is_declared l.plan.liars.items l.plan.nodes.items) (up_from 1 (l.number - 1))
