-- one more is the same
use Rattle.std.proofs.Common.{◌≡◌, ℕ, List, ◌∷◌, [], ◌++◌, get_or, take, ap, sym, ◌∙◌}
use Rattle.std.proofs.lemmas.List.{take_more}
use Rattle.std.proofs.lemmas.Option.{slice_get_within, get_or_from_slice_get}
use Rattle.xl_base.specs.declared.ids.TxId.{TxId}
use Rattle.xl_told.proofs.hashed.are_listed.Goals as goal

pub loop-i-preserved : goal.loop-i-preserved
loop-i-preserved c =
    let list : List TxId = c.args.list.now in
    let ids : List TxId = c.args.ids.now in
    let i : ℕ = c.loop-i.i in
    let id : TxId = c.get.result in
    let nothing : TxId = record { 0 = [] } in
    let same : get_or list i nothing ≡ id = c.is_same_id.ensures c.if-not-is_same_id.false in
    take_more list i nothing c.loop-i-test.true
    ∙ (ap (λ (x : TxId). take i list ++ x ∷ []) same
    ∙ (ap (λ (xs : List TxId). xs ++ id ∷ []) c.loop-i.invariant
    ∙ sym (take_more ids i id (slice_get_within ids i id c.get.ensures) ∙ ap (λ (x : TxId). take i ids ++ x ∷ []) (get_or_from_slice_get ids i id id c.get.ensures))))
