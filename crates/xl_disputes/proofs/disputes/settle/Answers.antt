use Rattle.std.proofs.Common.{◌≡◌, suc, ◌+◌, take, ap, ◌∙◌, arith}
use Rattle.xl_disputes.specs.Standings.{standings, weighed}
use Rattle.xl_disputes.proofs.Unused.{first_enough}
use Rattle.xl_disputes.proofs.disputes.settle.Goals as goal

pub returns : goal.returns
returns c =
    let next : c.args.last + 1 ≡ suc c.args.last = omega arith in
    c.weigh_all.ensures
    ∙ ap (λ weights. weighed (take (c.args.last + 1) weights) c.args.shares.now) c.count_standings.ensures.value
    ∙ ap (λ n. weighed (take n (standings c.args.shares.now (take c.args.last c.args.positions.now))) c.args.shares.now) next
    ∙ first_enough c.args.last c.args.shares.now c.args.positions.now c.requires.places c.requires.ends
