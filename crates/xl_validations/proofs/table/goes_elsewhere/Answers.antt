use Rattle.std.proofs.Common.{arith}
use Rattle.xl_validations.proofs.Choosing.{later_choice, earlier_choice}
use Rattle.xl_validations.proofs.table.goes_elsewhere.Goals as goal

pub returns-then-seq-preferred_seq-clause-value : goal.returns-then-seq-preferred_seq-clause-value
returns-then-seq-preferred_seq-clause-value c =
    later_choice c.args.walk.now.ledgers.headers c.seq_of-seq.ensures.ledgers c.args.current c.args.preferred c.requires.preferred c.ancestor.result c.seq_of-preferred_seq.result c.ne.result
    c.seq_of-preferred_seq.ensures.value (omega (arith, c.if-seq-preferred_seq.true, c.seq_of-seq.ensures.value)) c.ancestor.ensures.value c.ne.ensures

pub returns-else-seq-preferred_seq-clause-value : goal.returns-else-seq-preferred_seq-clause-value
returns-else-seq-preferred_seq-clause-value c =
    earlier_choice c.args.walk.now.ledgers.headers c.seq_of-seq.ensures.ledgers c.args.current c.args.preferred c.requires.preferred c.ancestor-else-seq-preferred_seq.result c.seq_of-preferred_seq.result c.ne-else-seq-preferred_seq.result
    c.requires.current c.seq_of-preferred_seq.ensures.value (omega (arith, c.if-seq-preferred_seq.false, c.seq_of-seq.ensures.value)) c.ancestor-else-seq-preferred_seq.ensures.value c.ne-else-seq-preferred_seq.ensures
