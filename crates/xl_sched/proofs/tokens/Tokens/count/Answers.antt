use Rattle.std.proofs.Common.{arith}
use Rattle.xl_sched.proofs.TokenLemmas.{length-tokens-le}
use Rattle.xl_sched.proofs.tokens.Tokens.count.Goals as goal

pub loop-left-init : goal.loop-left-init
loop-left-init c = (omega arith, omega (arith, length-tokens-le c.self.inside.rest.now, c.self.invariant))
