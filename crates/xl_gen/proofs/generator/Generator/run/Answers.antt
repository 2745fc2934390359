-- what has come is what the seconds before this one bring, and each turn adds what this one brings
use Rattle.std.proofs.Common.{◌≡◌, ℕ, ◌+◌, ◌-◌, ◌*◌, arith, subst, sym}
use Rattle.std.specs.List.{flat_map}
use Rattle.xl_world.specs.Plans.{up_from}
use Rattle.xl_gen.specs.Schedule.{events_of}
use Rattle.xl_gen.specs.Summaries.{Comes}
use Rattle.xl_gen.proofs.Coming.{come_first, come_second}
use Rattle.xl_gen.proofs.generator.Generator.run.Goals as goal

pub loop-second-init : goal.loop-second-init
loop-second-init c = come_first c.args.self.now

pub loop-second-preserved : goal.loop-second-preserved
loop-second-preserved c =
    let count : c.loop-second.second + 1 - 1 ≡ c.loop-second.second = omega arith in
    subst (λ (k : ℕ). Comes c.args.self.now c.pass.new.self (flat_map events_of (up_from 1 k))) (sym count)
    (come_second c.args.self.now c.loop-second.self c.pass.new.self c.loop-second.second c.loop-second.auto.second c.loop-second.invariant c.in_ok-pass.ensures)

pub returns : goal.returns
returns c =
    let above = c.loop-second-test.false in
    let end = c.loop-second.auto.second-end (omega arith) in
    let last : c.loop-second.second - 1 ≡ 4 * c.args.rounds + 7 = omega (arith, above, end) in
    subst (λ (k : ℕ). Comes c.args.self.now c.loop-second.self (flat_map events_of (up_from 1 k))) last c.loop-second.invariant
