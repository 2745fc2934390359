use Rattle.std.proofs.Common.{arith}
use Rattle.xl_rounds.proofs.KeptLaws.{none_marked, passed_until, next_within}
use Rattle.xl_rounds.proofs.kept.next_marked.Goals as goal

pub returns-then-left-eq0-clause-passed : goal.returns-then-left-eq0-clause-passed
returns-then-left-eq0-clause-passed c = λ i after before. none_marked c.args.marks c.args.from i c.if-left-eq0.true after

pub returns-clause-within : goal.returns-clause-within
returns-clause-within c =
    let within = next_within c.args.marks c.args.from c.ranges.marks.fits (omega (arith, c.if-left-eq0.false)) in omega (arith, within)

pub returns-clause-passed : goal.returns-clause-passed
returns-clause-passed c = passed_until c.args.marks c.args.from c.ranges.marks.fits (omega (arith, c.if-left-eq0.false))
