-- the store is asked only about another list than the one set, and the core's answer decides which is then set
use Rattle.std.proofs.Common.{subst}
use Rattle.xl_turns.specs.Passes.{known}
use Rattle.xl_lists.specs.Lists.{TrustedList}
use Rattle.xl_core.specs.declared.event.CoreEvent.TheVariants.{Relist}
use Rattle.xl_core.specs.Answers.{Done, Refused}
use Rattle.xl_core.specs.Replies.{done_answer}
use Rattle.xl_store.specs.Stores.{Called}
use Rattle.xl_heartbeat.specs.Relisting.{made_at}
use Rattle.xl_heartbeat.proofs.Pulses.{unasked, set_now, not_set}
use Rattle.xl_heartbeat.proofs.relisting.relist_at.Goals as goal

pub returns-in_default-clause-relisted : goal.returns-in_default-clause-relisted
returns-in_default-clause-relisted g c =
    unasked c.args.store.now (made_at c.args.standing.now.publishing c.args.now) c.args.now
    c.args.standing.now
    (known c.args.pass.now) c.in_default.ensures.other

pub returns-in-Ok-Ok-clause-relisted : goal.returns-in-Ok-Ok-clause-relisted
returns-in-Ok-Ok-clause-relisted g c =
    set_now c.args.store.now (made_at c.args.standing.now.publishing c.args.now) c.args.now
    c.args.standing.now c.in-Some.list
    c.args.pass.now c.relist.new.pass c.in-Some.ensures.other
    (subst (λ (l : TrustedList). Called c.args.store.now c.args.pass.now (Relist c.args.now l) Done c.relist.new.pass)
    c.copy.ensures
    (subst
    (λ r. Called c.args.store.now c.args.pass.now (Relist c.args.now c.copy.result) (done_answer r) c.relist.new.pass)
    c.in-Ok-Ok.field-0-is c.in-Ok-Ok.ensures.called))

pub returns-in-Ok-Err-clause-relisted : goal.returns-in-Ok-Err-clause-relisted
returns-in-Ok-Err-clause-relisted g c =
    not_set c.args.store.now (made_at c.args.standing.now.publishing c.args.now) c.args.now
    c.args.standing.now c.in-Some.list
    c.in-Ok-Err.field-0-0 c.args.pass.now c.relist.new.pass c.in-Some.ensures.other
    (subst
    (λ (l : TrustedList).
    Called c.args.store.now c.args.pass.now (Relist c.args.now l) (Refused c.in-Ok-Err.field-0-0) c.relist.new.pass)
    c.copy.ensures
    (subst
    (λ r. Called c.args.store.now c.args.pass.now (Relist c.args.now c.copy.result) (done_answer r) c.relist.new.pass)
    c.in-Ok-Err.field-0-is c.in-Ok-Err.ensures.called))
