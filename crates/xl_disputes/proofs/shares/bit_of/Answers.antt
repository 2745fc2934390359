use Rattle.std.proofs.Common.{◌-◌, ◌^◌, ◌<◌, arith}
use Rattle.std.proofs.Math.Pow.{pow-lt}
use Rattle.xl_disputes.proofs.shares.bit_of.Goals as goal

pub returns : goal.returns
returns c =
    let low : 2 ^ (c.args.place - 1) < 2 ^ 64 = pow-lt {i = c.args.place - 1} {j = 64} (omega (arith, c.requires.within)) in
    omega (arith, low)
