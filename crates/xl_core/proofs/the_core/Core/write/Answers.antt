-- if not all headers fit nothing that waits is taken, and else it goes behind them, into the room that is left
use Rattle.std.proofs.Common.{◌+◌, ◌-◌, ◌∙◌, ◌++◌, length, take, drop, sym, subst}
use Rattle.std.proofs.lemmas.List.{take_rest}
use Rattle.xl_core.specs.Core.{Core}
use Rattle.xl_core.specs.Replies.{Drains, core_for}
use Rattle.xl_core.proofs.Greeted.{drains_front, drains_both, behind_end}
use Rattle.xl_core.proofs.the_core.Core.write.Goals as goal

pub returns-then-not-is_greeted-clause-step : goal.returns-then-not-is_greeted-clause-step
returns-then-not-is_greeted-clause-step g c =
    let old : Core = record { node = c.self.inside.node; waiting = c.self.inside.waiting; greetings = c.self.inside.greetings; untaken = c.self.inside.untaken; stopped = c.self.inside.stopped } in
    subst (λ (a : Core). Drains (core_for c.args.tags a) c.args.member (let b : Core = record old { greetings = c.hand_chain-at.new.greetings } in core_for c.args.tags b) c.hand_chain-at.result c.args.room.now c.hand_chain-at.new.room) c.self.view_is
    (drains_front (core_for c.args.tags old) c.args.member c.hand_chain-at.result c.hand_chain-at.new.greetings c.args.room.now c.hand_chain-at.new.room c.hand_chain-at.ensures.written c.hand_chain-at.ensures.handed
    (sym c.is_greeted.ensures ∙ c.if-not-is_greeted.true))

pub returns-clause-step : goal.returns-clause-step
returns-clause-step g c =
    let at = c.hand_chain-at.result in
    let mid = c.hand_chain-at.new.room in
    let old : Core = record { node = c.self.inside.node; waiting = c.self.inside.waiting; greetings = c.self.inside.greetings; untaken = c.self.inside.untaken; stopped = c.self.inside.stopped } in
    subst (λ (a : Core). Drains (core_for c.args.tags a) c.args.member (let b : Core = record old { waiting = c.drain-count.new.waiting; greetings = c.hand_chain-at.new.greetings } in core_for c.args.tags b) (at + c.drain-count.result) c.args.room.now
    (take at mid ++ (c.drain-count.new.room ++ drop (length mid - at) (drop at mid)))) c.self.view_is
    (drains_both (core_for c.args.tags old) c.args.member at c.drain-count.result c.hand_chain-at.new.greetings c.drain-count.new.waiting c.args.room.now mid (take (length mid - at) (drop at mid)) c.drain-count.new.room (drop (length mid - at) (drop at mid))
    c.hand_chain-at.ensures.written c.hand_chain-at.ensures.handed (sym c.is_greeted.ensures ∙ c.if-not-is_greeted.false) (take_rest mid at) (behind_end at mid)
    c.drain-count.ensures.count c.drain-count.ensures.frames c.drain-count.ensures.taken)
