use Rattle.std.proofs.Common.{arith}
use Rattle.xl_world.proofs.Drains.{length_there, whole_long}
use Rattle.xl_world.proofs.draining.first_length.Goals as goal

pub returns-then-bytes-lt-AROUND-clause-none : goal.returns-then-bytes-lt-AROUND-clause-none
returns-then-bytes-lt-AROUND-clause-none c = λ _ f is. omega (arith, (whole_long c.args.bytes.now f is).0, c.if-bytes-lt-AROUND.true)

pub returns-then-length-bytes-clause-some : goal.returns-then-length-bytes-clause-some
returns-then-length-bytes-clause-some c =
    let there = length_there c.args.bytes.now (omega (arith, c.if-bytes-lt-AROUND.false)) in
    record {
      long = λ f is. omega (arith, (whole_long c.args.bytes.now f is).1, there, c.from_be_bytes.ensures);
      within = omega (arith, c.if-length-bytes.true);
      some = omega arith;
    }

pub returns-else-length-bytes-clause-none : goal.returns-else-length-bytes-clause-none
returns-else-length-bytes-clause-none c = λ _ f is.
    omega (arith, (whole_long c.args.bytes.now f is).0, length_there c.args.bytes.now (omega (arith, c.if-bytes-lt-AROUND.false)), c.from_be_bytes.ensures, c.if-length-bytes.false)
