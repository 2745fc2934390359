-- ids that rise come once each, so the one whose turn it is still has what it had at first
use Rattle.std.proofs.Common.{[], get_or, refl}
use Rattle.xl_disputes.proofs.ExchangingAll.{can_within, can_fit, can_have_room, exchanges_more}
use Rattle.xl_disputes.proofs.index.Index.exchange_all.Goals as goal

pub exchange-requires-clause-within : goal.exchange-requires-clause-within
exchange-requires-clause-within c =
    can_within c.args.self.now c.loop-id.self c.loop-id.self c.args.ids.now c.loop-id.id-index (get_or c.args.ids.now c.loop-id.id-index (record { 0 = [] })) (record { 0 = [] })
    c.args.from c.args.to c.requires.rising c.requires.exchangeable c.loop-id-test.true refl c.loop-id.invariant

pub exchange-requires-clause-fitting : goal.exchange-requires-clause-fitting
exchange-requires-clause-fitting c =
    can_fit c.args.self.now c.loop-id.self c.loop-id.self c.args.ids.now c.loop-id.id-index (get_or c.args.ids.now c.loop-id.id-index (record { 0 = [] })) (record { 0 = [] })
    c.args.from c.args.to c.requires.rising c.requires.exchangeable c.loop-id-test.true refl c.loop-id.invariant

pub exchange-requires-clause-room : goal.exchange-requires-clause-room
exchange-requires-clause-room c =
    can_have_room c.args.self.now c.loop-id.self c.loop-id.self c.args.ids.now c.loop-id.id-index (get_or c.args.ids.now c.loop-id.id-index (record { 0 = [] })) (record { 0 = [] })
    c.args.from c.args.to c.requires.rising c.requires.exchangeable c.loop-id-test.true refl c.loop-id.invariant

pub loop-id-preserved : goal.loop-id-preserved
loop-id-preserved c =
    exchanges_more c.args.self.now c.loop-id.self c.exchange.new.self c.args.ids.now c.loop-id.id-index (get_or c.args.ids.now c.loop-id.id-index (record { 0 = [] })) (record { 0 = [] })
    c.args.from c.args.to c.requires.rising c.requires.exchangeable c.loop-id-test.true refl c.loop-id.invariant c.exchange.ensures.exact c.exchange.ensures.valid
