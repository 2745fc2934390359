-- each jump takes the highest bit off what is left to climb, and two jumps of one level are one of the next
use Rattle.std.proofs.Common.{arith}
use Rattle.xl_ledger.proofs.Climbing.{climbs_from, bit_within, falls, climbs_on, has_climbed, climbed_to, stood}
use Rattle.xl_ledger.proofs.walk.Walk.ancestor.Goals as goal

pub loop-self-init : goal.loop-self-init
loop-self-init c = climbs_from c.args.self.now c.args.ledger c.args.seq c.requires.known c.requires.above

pub jump-at-requires-clause-level : goal.jump-at-requires-clause-level
jump-at-requires-clause-level c =
    let s = c.seq_of-in-loop-self in
    bit_within c.args.self.now c.loop-self.self c.args.ledger c.args.seq c.loop-self.at s.result c.loop-self.invariant s.ensures.ledgers s.ensures.value s.ensures.below (omega (arith, c.seq_of.ensures.value, c.loop-self-test.true))
    c.ilog2.result c.ilog2.ensures.power_le c.ilog2.ensures.next_power_gt

pub loop-self-smaller : goal.loop-self-smaller
loop-self-smaller c =
    let s = c.seq_of-in-loop-self in
    falls c.args.self.now c.loop-self.self c.args.ledger c.args.seq c.loop-self.at s.result c.loop-self.invariant s.ensures.ledgers s.ensures.value s.ensures.below (omega (arith, c.seq_of.ensures.value, c.loop-self-test.true))
    c.ilog2.result c.ilog2.ensures.power_le c.ilog2.ensures.next_power_gt c.jump-at.result c.jump-at.ensures.value

pub loop-self-preserved : goal.loop-self-preserved
loop-self-preserved c =
    let s = c.seq_of-in-loop-self in
    climbs_on c.args.self.now c.loop-self.self c.args.ledger c.args.seq c.loop-self.at s.result c.loop-self.invariant s.ensures.ledgers s.ensures.value s.ensures.below (omega (arith, c.seq_of.ensures.value, c.loop-self-test.true))
    c.ilog2.result c.ilog2.ensures.power_le c.ilog2.ensures.next_power_gt c.jump-at.result c.jump-at.ensures.value c.jump-at.new.self c.jump-at.ensures.goes_on c.jump-at.ensures.step

pub returns-clause-value : goal.returns-clause-value
returns-clause-value c =
    climbed_to c.args.self.now c.loop-self.self c.args.ledger c.args.seq c.loop-self.at c.loop-self.invariant c.requires.above
    (has_climbed c.args.self.now c.loop-self.self c.args.ledger c.args.seq c.loop-self.at c.seq_of.result c.loop-self.invariant c.requires.above c.seq_of.ensures.value c.loop-self-test.false)

pub returns-clause-still : goal.returns-clause-still
returns-clause-still c = stood c.args.self.now c.loop-self.self c.args.ledger c.args.seq c.loop-self.at c.loop-self.invariant
