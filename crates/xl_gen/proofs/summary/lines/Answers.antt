-- the count is of the seconds passed, each has few lines, and the rounds are few enough that it can't overflow
use Rattle.std.proofs.Common.{◌≡◌, ◌≤◌, ℕ, ◌+◌, ◌-◌, ◌*◌, arith, refl, length, ap, ◌∙◌}
use Rattle.std.specs.List.{flat_map}
use Rattle.xl_world.specs.Plans.{up_from}
use Rattle.xl_gen.specs.Schedule.{second_lines}
use Rattle.xl_gen.proofs.Coming.{lines_first, lines_more}
use Rattle.xl_gen.proofs.summary.lines.Goals as goal

pub loop-second-init : goal.loop-second-init
loop-second-init c = (lines_first, omega arith)

pub overflow_add-count : goal.overflow_add-count
overflow_add-count c =
    let few = c.loop-second.invariant.1 in
    let most = c.second_lines-count.ensures.most in
    let below = c.loop-second-test.true in
    let rounds = c.requires in
    omega (arith, few, most, below, rounds)

pub loop-second-preserved : goal.loop-second-preserved
loop-second-preserved c =
    let few = c.loop-second.invariant.1 in
    let most = c.second_lines-count.ensures.most in
    let least = c.loop-second.auto.second in (
      lines_more c.loop-second.second c.loop-second.count (c.loop-second.count + c.second_lines-count.result) c.second_lines-count.result least c.loop-second.invariant.0 c.second_lines-count.ensures.value refl,
      omega (arith, few, most, least),
    )

pub returns : goal.returns
returns c =
    let above = c.loop-second-test.false in
    let end = c.loop-second.auto.second-end (omega arith) in
    let last : c.loop-second.second - 1 ≡ 4 * c.args.rounds + 7 = omega (arith, above, end) in
    let all : c.loop-second.count ≡ 9 + length (flat_map second_lines (up_from 1 (4 * c.args.rounds + 7))) =
    c.loop-second.invariant.0 ∙ ap (λ (k : ℕ). 9 + length (flat_map second_lines (up_from 1 k))) last in
    omega (arith, all)
