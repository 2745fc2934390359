-- the place had no ids, so what it gives can be added at each id of its set, and the index is the sum again
use Rattle.std.proofs.Common.{◌≡◌, [], get_or, ◌∙◌, ap}
use Rattle.std.specs.Prelude.{Some}
use Rattle.xl_disputes.specs.Holdings.{with_set, ids_in}
use Rattle.xl_disputes.proofs.Changing.{set_changed, may_fill, filled}
use Rattle.xl_disputes.proofs.shares.Shares.fill.Goals as goal

pub exchange_all-requires-clause-exchangeable : goal.exchange_all-requires-clause-exchangeable
exchange_all-requires-clause-exchangeable c =
    let free : ids_in c.index_mut-held.result.now ≡ [] =
    ap ids_in (c.index_mut-held.ensures.value ∙ ap (λ hs. get_or hs c.args.place c.index_mut-held.result.now) c.self.view_is) ∙ c.requires.free c.index_mut-held.result.now in
    may_fill c.self.inside.places.items c.self.inside.index c.self.invariant c.args.place c.index_mut-held.result.now c.requires.within c.index_mut-held.ensures.value
    c.args.ids.now c.none.result c.tally.result free c.requires.valid c.none.ensures c.tally.ensures

pub invariant_of-self : goal.invariant_of-self
invariant_of-self c =
    let free : ids_in c.index_mut-held.result.now ≡ [] =
    ap ids_in (c.index_mut-held.ensures.value ∙ ap (λ hs. get_or hs c.args.place c.index_mut-held.result.now) c.self.view_is) ∙ c.requires.free c.index_mut-held.result.now in
    filled c.self.inside.places.items c.self.inside.index c.self.invariant c.args.place c.index_mut-held.result.now c.requires.within c.index_mut-held.ensures.value
    c.exchange_all.new.self c.args.ids.now c.none.result c.tally.result c.fill.new.self free c.requires.valid c.none.ensures c.tally.ensures c.exchange_all.ensures c.fill.ensures

pub returns : goal.returns
returns c =
    set_changed (with_set (Some c.args.ids.now)) c.self.inside.places.items c.args.self.now c.args.place c.index_mut-held.result.now c.fill.new.self
    c.self.invariant.count c.requires.within c.index_mut-held.ensures.value c.fill.ensures c.self.view_is
