-- rows rise, so each has a name of its own, and a name still to come finds what it found at first
use Rattle.std.proofs.Common.{◌≡◌, length, get_or, Some, sym, ap, subst, ◌∙◌, arith}
use Rattle.std.specs.Prelude.{unwrap_or}
use Rattle.std.proofs.lemmas.List.{get_or_default}
use Rattle.std.proofs.lemmas.List.Elements.{All-get_or}
use Rattle.xl_pool.specs.Pools.{get}
use Rattle.xl_pool.specs.declared.name.Name.{Name}
use Rattle.xl_disputes.specs.Pooled.{no_row, row_of, IsSwept}
use Rattle.xl_disputes.proofs.Sweeping.{swept_none, as_before, swept_more}
use Rattle.xl_disputes.proofs.rows.give_all_back.Goals as goal

abbrev any : Name
any = record { slot = 0; generation = 0 }

pub loop-name-init : goal.loop-name-init
loop-name-init c = swept_none c.args.pool.now c.args.order.now

pub give_back-requires : goal.give_back-requires
give_back-requires c =
    let old = c.args.pool.now in
    let order = c.args.order.now in
    let i = c.loop-name.name-index in
    let name : Name = get_or order i any in
    let same : get c.loop-name.pool name ≡ get old name =
    as_before old c.loop-name.pool order i name c.loop-name.invariant c.loop-name-test.true (get_or_default order i any name c.loop-name-test.true) c.requires.apart in
    record {
      there =
          same ∙ All-get_or (λ n. get old n ≡ Some (row_of old n)) order i any c.loop-name-test.true c.requires.there
          ∙ ap (λ o. Some (unwrap_or o no_row)) (sym same);
    }

pub loop-name-preserved : goal.loop-name-preserved
loop-name-preserved c =
    let order = c.args.order.now in
    let i = c.loop-name.name-index in
    let name : Name = get_or order i any in
    swept_more c.args.pool.now c.loop-name.pool order i name c.loop-name.invariant c.loop-name-test.true (get_or_default order i any name c.loop-name-test.true) c.requires.apart
    c.give_back.new.pool c.give_back.ensures.updates c.give_back.ensures.slots c.give_back.ensures.count

pub returns : goal.returns
returns c =
    let all : c.loop-name.name-index ≡ length c.args.order.now = omega (arith, c.loop-name-test.false, c.loop-name.auto.name-index-end) in
    subst (IsSwept c.args.pool.now c.loop-name.pool c.args.order.now) all c.loop-name.invariant
