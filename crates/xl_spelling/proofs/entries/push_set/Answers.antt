-- the first id and those passed, each of these behind a comma, are in the room, and every one of them is an id
use Rattle.std.proofs.Common.{◌++◌, ◌∷◌, ◌∙◌, [], List, ap, sym, subst}
use Rattle.std.specs.List.{All}
use Rattle.std.proofs.lemmas.List.{take_all}
use Rattle.std.proofs.lemmas.List.Elements.{All-more, All-cons}
use Rattle.hex.specs.Hex.{encode_lower}
use Rattle.xl_base.specs.declared.ids.TxId.{TxId}
use Rattle.xl_spelling.specs.Spellings.{set_word}
use Rattle.xl_base.specs.Ids.{IsId}
use Rattle.xl_spelling.proofs.Commas.{entries-more, entries-done}
use Rattle.xl_spelling.proofs.entries.push_set.Goals as goal

pub loop-other-preserved : goal.loop-other-preserved
loop-other-preserved c =
    let others = c.in-Some.others.now in
    let i = c.loop-other.other-index in
    let none : TxId = record { 0 = [] } in (
      entries-more (λ id. encode_lower id.0) others i none c.push_id.new.room.items c.loop-other.room.items c.push_id-in-loop-other.new.room.items
          c.loop-other-test.true c.loop-other.invariant.0 c.in_ok-push_id-2.ensures.text,
      All-more (λ id. IsId id.0) others i none c.loop-other-test.true c.loop-other.invariant.1 c.in_ok-push_id-2.ensures.id,
    )

pub returns-clause-text : goal.returns-clause-text
returns-clause-text c =
    entries-done (λ id. encode_lower id.0) c.in-Some.first.now c.in-Some.others.now c.loop-other.other-index c.args.room.now.items c.push_id.new.room.items c.loop-other.room.items
    c.in_ok-push_id.ensures.text c.loop-other.invariant.0 c.loop-other-test.false
    ∙ ap (λ ids. c.args.room.now.items ++ 32 ∷ set_word ids) (sym c.in-Some.ensures.cases.0)

pub returns-clause-ids : goal.returns-clause-ids
returns-clause-ids c =
    let others = c.in-Some.others.now in
    let P = λ (id : TxId). IsId id.0 in
    subst (λ (ids : List TxId). All P ids) (sym c.in-Some.ensures.cases.0)
    (All-cons P c.in-Some.first.now others c.in_ok-push_id.ensures.id
    (subst (λ (ids : List TxId). All P ids) (take_all c.loop-other.other-index others c.loop-other-test.false) c.loop-other.invariant.1))
