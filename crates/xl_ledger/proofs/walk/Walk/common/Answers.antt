-- what two ledgers share has at most the lesser of their sequences, so bringing both to it loses nothing
use Rattle.std.proofs.Common.{ℕ, ap, arith}
use Rattle.xl_ledger.specs.Chains.{seq_at}
use Rattle.xl_ledger.proofs.Climbing.{leveled_left, leveled_right, steps_right, stands_right}
use Rattle.xl_ledger.proofs.walk.Walk.common.Goals as goal

pub returns-then-a_seq-b_seq-clause-value : goal.returns-then-a_seq-b_seq-clause-value
returns-then-a_seq-b_seq-clause-value c =
    let up = c.ancestor-left in
    leveled_left c.args.self.now up.new.self c.args.a c.args.b c.seq_of-b_seq.result up.result c.seq_of-a_seq.ensures.ledgers up.ensures.goes_on c.meet.result c.requires.a_known c.seq_of-b_seq.ensures.value
    (omega (arith, c.seq_of-a_seq.ensures.value, c.if-a_seq-b_seq.true)) up.ensures.value c.meet.ensures.value

pub returns-else-a_seq-b_seq-clause-value : goal.returns-else-a_seq-b_seq-clause-value
returns-else-a_seq-b_seq-clause-value c =
    let up = c.ancestor-right in
    leveled_right c.args.self.now up.new.self c.args.a c.args.b c.seq_of-a_seq.result up.result c.seq_of-a_seq.ensures.ledgers up.ensures.goes_on c.meet-else-a_seq-b_seq.result c.requires.b_known c.seq_of-a_seq.ensures.value
    (omega (arith, c.seq_of-b_seq.ensures.value, c.if-a_seq-b_seq.false)) up.ensures.value c.meet-else-a_seq-b_seq.ensures.value

pub returns-else-a_seq-b_seq-clause-step : goal.returns-else-a_seq-b_seq-clause-step
returns-else-a_seq-b_seq-clause-step c =
    let up = c.ancestor-right in
    steps_right c.args.self.now up.new.self c.args.a c.args.b c.seq_of-a_seq.result up.result c.seq_of-a_seq.ensures.ledgers up.ensures.goes_on c.meet-else-a_seq-b_seq.new.self c.meet-else-a_seq-b_seq.ensures.goes_on
    up.ensures.value up.ensures.step c.meet-else-a_seq-b_seq.ensures.step

pub returns-then-a_seq-b_seq-clause-still : goal.returns-then-a_seq-b_seq-clause-still
returns-then-a_seq-b_seq-clause-still c one =
    absurd (omega (arith, ap (λ (x : ℕ). seq_at c.args.self.now.ledgers.headers x) one, c.seq_of-a_seq.ensures.value, c.seq_of-b_seq.ensures.value, c.if-a_seq-b_seq.true))

pub returns-else-a_seq-b_seq-clause-still : goal.returns-else-a_seq-b_seq-clause-still
returns-else-a_seq-b_seq-clause-still c =
    let up = c.ancestor-right in
    stands_right c.args.self.now up.new.self c.args.a c.args.b c.seq_of-a_seq.result up.result c.seq_of-a_seq.ensures.ledgers up.ensures.goes_on c.meet-else-a_seq-b_seq.new.self c.seq_of-a_seq.ensures.value
    up.ensures.value up.ensures.still c.meet-else-a_seq-b_seq.ensures.still
