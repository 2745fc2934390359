-- each id that comes is in some set and so has a row, and the place's part moves there from the ids that go
use Rattle.std.proofs.Common.{◌≡◌, true, ap, ◌∙◌}
use Rattle.std.specs.Prelude.{Some, flat_map}
use Rattle.xl_base.specs.declared.ids.TxId.{TxId}
use Rattle.xl_disputes.specs.Disputes.{has}
use Rattle.xl_disputes.specs.Holdings.{with_set, ids_in}
use Rattle.xl_disputes.proofs.Changing.{set_changed, may_replace, replaced, leaving_rises}
use Rattle.xl_disputes.proofs.shares.Shares.replace.Goals as goal
use Rattle.xl_disputes.proofs.shares.Shares.replace.Goals.{After-tally}

counted : (c : After-tally) → (tx : TxId) → has c.args.ids.now tx ≡ true → has (flat_map ids_in c.self.inside.places.items) tx ≡ true
counted c tx among = ap (λ hs. has (flat_map ids_in hs) tx) c.self.view_is ∙ c.requires.counted tx among

pub move_part-requires-clause-leaving : goal.move_part-requires-clause-leaving
move_part-requires-clause-leaving c =
    leaving_rises c.self.inside.places.items c.self.inside.index c.self.invariant c.args.place c.index_mut-held.result.now c.requires.within c.index_mut-held.ensures.value
    c.args.ids.now c.requires.valid (counted c) c.ids.result.now c.ids.ensures.value c.tally.result c.tally.ensures

pub move_part-requires-clause-movable : goal.move_part-requires-clause-movable
move_part-requires-clause-movable c =
    may_replace c.self.inside.places.items c.self.inside.index c.self.invariant c.args.place c.index_mut-held.result.now c.requires.within c.index_mut-held.ensures.value
    c.args.ids.now c.requires.valid (counted c) c.ids.result.now c.ids.ensures.value c.tally.result c.tally.ensures

pub invariant_of-self : goal.invariant_of-self
invariant_of-self c =
    replaced c.self.inside.places.items c.self.inside.index c.self.invariant c.args.place c.index_mut-held.result.now c.requires.within c.index_mut-held.ensures.value
    c.args.ids.now c.requires.valid (counted (goal.at.invariant_of-self c).After-tally) c.ids.result.now c.ids.ensures.value c.tally.result c.tally.ensures
    c.move_part.new.self c.fill.new.self c.move_part.ensures c.fill.ensures

pub returns : goal.returns
returns c =
    set_changed (with_set (Some c.args.ids.now)) c.self.inside.places.items c.args.self.now c.args.place c.index_mut-held.result.now c.fill.new.self
    c.self.invariant.count c.requires.within c.index_mut-held.ensures.value c.fill.ensures c.self.view_is
