use Rattle.std.proofs.Common.{◌∙◌, arith}
use Rattle.xl_disputes.specs.Standings.{wins}
use Rattle.xl_disputes.proofs.Picking.{picked_more, picked_all}
use Rattle.xl_disputes.proofs.index.Index.pick.Goals as goal

pub loop-place-preserved : goal.loop-place-preserved
loop-place-preserved c = record {
  picked =
      picked_more (wins c.args.voters c.args.needed c.args.proposing) c.args.self.now c.loop-place.place c.at.result
      (omega (arith, c.loop-place-test.true, c.len-place-end.ensures.value)) c.at.ensures c.loop-place.next.items c.pick_row.new.ids.items c.loop-place.invariant.picked c.pick_row.ensures.picked;
  few = c.pick_row.ensures.few;
  room = c.pick_row.ensures.room ∙ c.loop-place.invariant.room;
}

pub returns-clause-lowest : goal.returns-clause-lowest
returns-clause-lowest c =
    picked_all (wins c.args.voters c.args.needed c.args.proposing) c.args.self.now c.loop-place.place c.loop-place.next.items
    (omega (arith, c.loop-place-test.false, c.len-place-end.ensures.value)) c.loop-place.invariant.picked
