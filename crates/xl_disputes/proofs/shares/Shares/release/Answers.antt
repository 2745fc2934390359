use Rattle.xl_disputes.specs.Holdings.{with_set}
use Rattle.std.specs.Prelude.{None}
use Rattle.xl_disputes.proofs.Changing.{set_changed, may_release, released}
use Rattle.xl_disputes.proofs.shares.Shares.release.Goals as goal

pub exchange_all-requires-clause-exchangeable : goal.exchange_all-requires-clause-exchangeable
exchange_all-requires-clause-exchangeable c =
    may_release c.self.inside.places.items c.self.inside.index c.self.invariant c.args.place c.index_mut-held.result.now c.requires c.index_mut-held.ensures.value
    c.ids.result.now c.tally-tally.result c.none.result c.ids.ensures.value c.tally-tally.ensures c.none.ensures

pub invariant_of-self : goal.invariant_of-self
invariant_of-self c =
    released c.self.inside.places.items c.self.inside.index c.self.invariant c.args.place c.index_mut-held.result.now c.requires c.index_mut-held.ensures.value
    c.exchange_all.new.self c.ids.result.now c.tally-tally.result c.none.result c.release.new.self c.ids.ensures.value c.tally-tally.ensures c.none.ensures
    c.exchange_all.ensures c.release.ensures

pub returns : goal.returns
returns c =
    set_changed (with_set None) c.self.inside.places.items c.args.self.now c.args.place c.index_mut-held.result.now c.release.new.self
    c.self.invariant.count c.requires c.index_mut-held.ensures.value c.release.ensures c.self.view_is
