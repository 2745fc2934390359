use Rattle.std.proofs.Common.{List, ◌∷◌, [], ◌++◌, take, ap, sym, ◌∙◌, arith}
use Rattle.std.proofs.lemmas.List.{take_more, take_all}
use Rattle.std.proofs.lemmas.Option.{slice_get_within, get_or_from_slice_get}
use Rattle.xl_base.specs.declared.ids.TxId.{TxId}
use Rattle.xl_told.proofs.hashed.list_of.Goals as goal

pub loop-i-preserved : goal.loop-i-preserved
loop-i-preserved c =
    let ids = c.args.ids.now in
    let i = c.loop-i.i in
    let id = c.get.result in
    c.in_ok-push.ensures.items ∙ ap (λ (xs : List TxId). xs ++ id ∷ []) c.loop-i.invariant
    ∙ sym (take_more ids i id (slice_get_within ids i id c.get.ensures) ∙ ap (λ (x : TxId). take i ids ++ x ∷ []) (get_or_from_slice_get ids i id id c.get.ensures))

pub returns : goal.returns
returns c = c.loop-i.invariant ∙ take_all c.loop-i.i c.args.ids.now (omega (arith, c.len-i-end.ensures.value))
