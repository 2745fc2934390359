-- both lists rise, so no id passed over is still to come, and the first accepted one that is left decides
use Rattle.std.proofs.Common.{◌≡◌, ◌+◌, ◌<◌, length, set, vec_capacity, Vec, ap, sym, ◌∙◌, arith}
use Rattle.std.specs.Global.{Global}
use Rattle.xl_base.specs.declared.ids.TxId.{TxId}
use Rattle.xl_disputes.specs.Rows.{not_below, is_first}
use Rattle.xl_rounds.proofs.Walking.{walked_as, kept, dropped}
use Rattle.xl_rounds.proofs.pending.drop_accepted.Goals as goal
use Rattle.xl_rounds.proofs.pending.drop_accepted.Goals.{then-not-is_first, else-not-is_first}

pub loop-place-preserved : goal.loop-place-preserved
loop-place-preserved c =
    let accepted = c.args.accepted.now in
    let old = c.args.ids.now.items in
    let now = c.loop-place.ids.items in
    let rest = c.loop-place.rest.now in
    let place = c.loop-place.place in
    let left = c.loop-place.left in
    let tx = c.index.result.now in
    let within : place < length old = omega (arith, c.loop-place-test.true, c.len-place-end.ensures, c.args.ids.now.ok.0) in
    let first : is_first tx (not_below tx rest) ≡ c.is_first.result = ap (is_first tx) (sym c.not_below-rest.ensures) ∙ sym c.is_first.ensures in
    elim c.if-not-is_first.branch [
      | then-not-is_first w ↦ record {
        walked = walked_as accepted old (set now left tx) (not_below tx rest) (place + 1) (left + 1) c.if-not-is_first.ids.items c.not_below-rest.result.now c.if-not-is_first.left
            (ap (λ (v : Vec TxId Global). v.items) w.ids-is) c.not_below-rest.ensures w.left-is
            (kept accepted old now rest place left c.loop-place.invariant.walked c.requires.pending tx within c.index.ensures (first ∙ w.if-not-is_first.true));
        room = ap vec_capacity w.ids-is ∙ c.loop-place.invariant.room;
      }
      | else-not-is_first w ↦ record {
        walked = walked_as accepted old now (not_below tx rest) (place + 1) left c.if-not-is_first.ids.items c.not_below-rest.result.now c.if-not-is_first.left
            (ap (λ (v : Vec TxId Global). v.items) w.ids-is) c.not_below-rest.ensures w.left-is
            (dropped accepted old now rest place left c.loop-place.invariant.walked c.requires.pending tx within c.index.ensures (first ∙ w.if-not-is_first.false));
        room = ap vec_capacity w.ids-is ∙ c.loop-place.invariant.room;
      }
    ]
