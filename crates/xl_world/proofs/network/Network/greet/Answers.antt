use Rattle.std.proofs.Common.{◌≡◌, ◌∙◌, List, [], ◌++◌, ap, arith, refl, subst, sym}
use Rattle.std.specs.Prelude.{◌==◌, OnOk}
use Rattle.std.proofs.lemmas.Bool.{cond-false, eqb-false}
use Rattle.xl_core.specs.declared.event.CoreEvent.TheVariants.{Greet}
use Rattle.xl_world.specs.declared.place.Fate.TheVariants.{Saved}
use Rattle.xl_world.specs.Emptying.{event_steps}
use Rattle.xl_core.specs.declared.deed.Deed.{Deed}
use Rattle.xl_world.specs.declared.outcome.Outcome.{Outcome}
use Rattle.xl_world.specs.Schedule.{told_in}
use Rattle.xl_world.specs.Seen.{MayDo, deed_event, with_forged}
use Rattle.xl_world.specs.World.{World, run}
use Rattle.xl_world.proofs.Acting.{fair_ran}
use Rattle.xl_world.proofs.Doing.{peer_of}
use Rattle.xl_world.proofs.network.Network.greet.Goals as goal

pub returns-clause-world : goal.returns-clause-world
returns-clause-world c =
    let w : World = c.args.self.now in
    subst (λ (v : World). OnOk c.act.result (c.act.new.self ≡ v))
    (ap (λ (d : Deed). with_forged w.forged (run w (event_steps w c.args.node (deed_event c.args.node d) Saved))) c.requires.deed
    ∙ (fair_ran w c.args.node (Greet c.args.peer) Saved (λ n. refl)
    ∙ ap (run w) (sym (cond-false (c.args.node == c.args.peer) [] (event_steps w c.args.node (Greet c.args.peer) Saved) (sym c.eq.ensures ∙ c.if-eq.false)))))
    c.act.ensures.world

pub returns-clause-told : goal.returns-clause-told
returns-clause-told c =
    let w : World = c.args.self.now in
    subst (λ (os : List Outcome). OnOk c.act.result (c.act.new.told.items ≡ c.args.told.now.items ++ os))
    (ap (λ (d : Deed). told_in w (event_steps w c.args.node (deed_event c.args.node d) Saved)) c.requires.deed
    ∙ ap (told_in w) (sym (cond-false (c.args.node == c.args.peer) [] (event_steps w c.args.node (Greet c.args.peer) Saved) (sym c.eq.ensures ∙ c.if-eq.false))))
    c.act.ensures.told

pub act-requires-clause-may : goal.act-requires-clause-may
act-requires-clause-may c =
    subst (MayDo c.args.node) (sym c.requires.deed)
    (peer_of c.args.node c.args.peer (omega (arith, c.get-number.ensures.value, c.get-number.ensures.first)) (omega (arith, c.get-number.ensures.value, c.get-number.ensures.last))
    (λ same. eqb-false c.args.node c.args.peer (sym c.eq.ensures ∙ c.if-eq.false) (sym same)))
