-- before each turn the front of the room is the ids so far, and the room stays as long as it was
use Rattle.std.proofs.Common.{ℕ, ◌∙◌, ◌<◌, ◌++◌, ◌∷◌, [], List, length, take, ap, sym, arith}
use Rattle.std.proofs.lemmas.List.{length-set, take_more, take_more_set, take_all}
use Rattle.std.proofs.lemmas.Option.{get_or_from_slice_get}
use Rattle.xl_base.specs.declared.ids.TxId.{TxId}
use Rattle.xl_core.proofs.node.deliberating.copy_ids.Goals as goal

pub loop-place-preserved : goal.loop-place-preserved
loop-place-preserved c =
    let ids : List TxId = c.args.ids.now in
    let room : List TxId = c.loop-place.room in
    let place = c.loop-place.place in
    let x : TxId = c.get.result in
    let there : place < length ids = omega (arith, c.loop-place-test.true, c.len-count.ensures.value) in
    record {
      copied = take_more_set room place x (omega (arith, there, c.requires, c.loop-place.invariant.room))
          ∙ ap (λ (xs : List TxId). xs ++ x ∷ []) c.loop-place.invariant.copied
          ∙ ap (λ (y : TxId). take place ids ++ y ∷ []) (sym (get_or_from_slice_get ids place x x c.get.ensures))
          ∙ sym (take_more ids place x there);
      room = length-set room place x ∙ c.loop-place.invariant.room;
    }

pub returns-clause-copied : goal.returns-clause-copied
returns-clause-copied c =
    ap (λ (k : ℕ). take k c.loop-place.room) (omega (arith, c.loop-place-test.false, c.loop-place.auto.place-end))
    ∙ c.loop-place.invariant.copied
    ∙ take_all c.loop-place.place c.args.ids.now (omega (arith, c.loop-place-test.false, c.len-count.ensures.value))
