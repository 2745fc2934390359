use Rattle.xl_disputes.specs.Holdings.{with_weight}
use Rattle.xl_disputes.proofs.Changing.{set_changed, may_weigh, weighed}
use Rattle.xl_disputes.proofs.shares.Shares.reweigh.Goals as goal

pub exchange_all-requires-clause-exchangeable : goal.exchange_all-requires-clause-exchangeable
exchange_all-requires-clause-exchangeable c =
    may_weigh c.self.inside.places.items c.self.inside.index c.self.invariant c.args.place c.index_mut-held.result.now c.requires.within c.index_mut-held.ensures.value
    c.ids.result.now c.tally-tally.result c.tally.result c.weigh.new.self c.args.weight c.requires.few c.tally-tally.ensures c.weigh.ensures c.ids.ensures.value c.tally.ensures

pub invariant_of-self : goal.invariant_of-self
invariant_of-self c =
    weighed c.self.inside.places.items c.self.inside.index c.self.invariant c.args.place c.index_mut-held.result.now c.requires.within c.index_mut-held.ensures.value
    c.exchange_all.new.self c.ids.result.now c.tally-tally.result c.tally.result c.weigh.new.self c.args.weight c.requires.few c.tally-tally.ensures c.weigh.ensures c.ids.ensures.value c.tally.ensures
    c.exchange_all.ensures

pub returns : goal.returns
returns c =
    set_changed (with_weight c.args.weight) c.self.inside.places.items c.args.self.now c.args.place c.index_mut-held.result.now c.weigh.new.self
    c.self.invariant.count c.requires.within c.index_mut-held.ensures.value c.weigh.ensures c.self.view_is
