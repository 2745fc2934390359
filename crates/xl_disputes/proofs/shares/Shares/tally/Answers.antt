use Rattle.std.proofs.Common.{ap, ◌∙◌}
use Rattle.xl_disputes.specs.Tallies.{holders}
use Rattle.xl_disputes.specs.Holdings.{total}
use Rattle.xl_disputes.proofs.Which.{holders_are}
use Rattle.xl_disputes.proofs.shares.Shares.tally.Goals as goal

pub returns-clause-which : goal.returns-clause-which
returns-clause-which c =
    ap holders (c.tally.ensures.value ∙ c.self.invariant.each c.args.id.now ∙ ap (λ hs. total hs c.args.id.now) c.self.view_is)
    ∙ holders_are c.args.self.now c.args.id.now c.requires
