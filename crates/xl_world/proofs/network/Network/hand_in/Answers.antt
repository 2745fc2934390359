use Rattle.std.proofs.Common.{◌≡◌, ◌++◌, ◌∙◌, ℕ, Bool, List, ap, subst, sym}
use Rattle.std.specs.Prelude.{if◌then◌else◌}
use Rattle.xl_base.specs.Counts.{one_more}
use Rattle.xl_core.specs.declared.event.CoreEvent.{CoreEvent}
use Rattle.xl_core.specs.declared.event.CoreEvent.TheVariants.{Frame}
use Rattle.xl_world.specs.declared.outcome.Outcome.{Outcome}
use Rattle.xl_world.specs.declared.place.Fate.TheVariants.{Saved}
use Rattle.xl_world.specs.declared.place.Place.{Place}
use Rattle.xl_world.specs.Emptying.{event_steps}
use Rattle.xl_world.specs.Indexes.{Traffic}
use Rattle.xl_world.specs.Schedule.{told_in}
use Rattle.xl_world.specs.Seen.{deed_event, forged_at, with_forged}
use Rattle.xl_world.specs.World.{World, place_at, run}
use Rattle.xl_world.specs.Worlds.{network_seen}
use Rattle.xl_world.proofs.Acting.{counted_ran}
use Rattle.xl_world.specs.Ends.{Grows}
use Rattle.xl_world.proofs.Growing.{grows_counted}
use Rattle.xl_world.proofs.network.Network.hand_in.Goals as goal
use Rattle.xl_world.proofs.network.Network.hand_in.Goals.{In_ok-act}

-- looking for forged bytes changes nothing of the world
same_world : (c : In_ok-act) → network_seen (record c.self.inside { traffic = c.is_forged-forged.new.traffic }) ≡ c.args.self.now
same_world c =
    ap (λ (t : Traffic). let w : World = record (network_seen c.self.inside) { sent = t.frames; mark = t.mark } in w) c.is_forged-forged.ensures.same ∙ c.self.view_is

-- whether what comes is forged
tested : (c : In_ok-act) → c.is_forged-forged.result ≡ forged_at c.args.self.now.liars c.args.self.now.sent c.args.bytes.now (place_at c.args.to c.args.self.now.places)
tested c =
    c.is_forged-forged.ensures.value
    ∙ (ap (λ (liars : List ℕ). forged_at liars c.self.inside.traffic.frames c.args.bytes.now (place_at c.args.to c.deref-2.result.now)) c.deref.ensures.value
    ∙ (ap (λ (places : List Place). forged_at c.self.inside.liars.items c.self.inside.traffic.frames c.args.bytes.now (place_at c.args.to places)) c.deref-2.ensures.value
    ∙ ap (λ (w : World). forged_at w.liars w.sent c.args.bytes.now (place_at c.args.to w.places)) c.self.view_is))

-- what is forged is heard as it came
heard : (c : In_ok-act) → deed_event c.args.to c.handed-deed.result ≡ Frame c.args.at c.args.bytes.now
heard c = c.handed-deed.ensures.event c.args.to (λ yes. c.is_forged-forged.ensures.sealed yes)

pub is_forged-forged-requires : goal.is_forged-forged-requires
is_forged-forged-requires c = record {
  rested = λ p found.
      c.requires.rest.cores c.args.to p
      (ap (λ (w : World). place_at c.args.to w.places) (sym c.self.view_is) ∙ (ap (place_at c.args.to) (sym c.deref-2.ensures.value) ∙ found));
}

-- the world after the event, but for the count
acted : (c : In_ok-act) → c.act.new.self ≡ with_forged c.args.self.now.forged (run c.args.self.now (event_steps c.args.self.now c.args.to (Frame c.args.at c.args.bytes.now) Saved))
acted c =
    c.in_ok-act.ensures.world
    ∙ (ap (λ (w : World). with_forged w.forged (run w (event_steps w c.args.to (deed_event c.args.to c.handed-deed.result) Saved))) (same_world c)
    ∙ ap (λ (e : CoreEvent). with_forged c.args.self.now.forged (run c.args.self.now (event_steps c.args.self.now c.args.to e Saved))) (heard c))

-- and what is told of it
pub returns-clause-told : goal.returns-clause-told
returns-clause-told c =
    let d = (goal.at.returns-clause-told c).In_ok-act in
    let told : List Outcome = c.args.told.now.items in
    d.in_ok-act.ensures.told
    ∙ (ap (λ (w : World). told ++ told_in w (event_steps w c.args.to (deed_event c.args.to d.handed-deed.result) Saved)) (same_world d)
    ∙ ap (λ (e : CoreEvent). told ++ told_in c.args.self.now (event_steps c.args.self.now c.args.to e Saved)) (heard d))

pub returns-clause-world : goal.returns-clause-world
returns-clause-world c =
    let d = (goal.at.returns-clause-world c).In_ok-act in
    let w : World = c.args.self.now in
    let before : c.self-2.inside.forged ≡ w.forged = ap (λ (v : World). v.forged) (c.self-2.view_is ∙ acted d) in
    ap (with_forged c.counted-self-inside.result) (c.self-2.view_is ∙ acted d)
    ∙ counted_ran w c.args.to c.args.at c.args.bytes.now c.counted-self-inside.result
    (c.counted-self-inside.ensures
    ∙ (ap (λ (n : ℕ). if c.is_forged-forged.result then one_more n else n) before ∙ ap (λ (b : Bool). if b then one_more w.forged else w.forged) (tested d)))

-- WHAT WAS TOLD STAYS

pub returns-in_err-act-clause-grows : goal.returns-in_err-act-clause-grows
returns-in_err-act-clause-grows c =
    subst (λ (w : World). Grows w c.act.new.self)
    (ap (λ (t : Traffic). let w : World = record (network_seen c.self.inside) { sent = t.frames; mark = t.mark } in w) c.is_forged-forged.ensures.same ∙ c.self.view_is)
    c.act.ensures.grows

pub returns-clause-grows : goal.returns-clause-grows
returns-clause-grows c =
    let d = (goal.at.returns-clause-grows c).In_ok-act in
    let w : World = c.args.self.now in
    grows_counted w (network_seen c.self-2.inside) c.counted-self-inside.result
    (subst (Grows w) (sym c.self-2.view_is) (subst (λ (u : World). Grows u c.act.new.self) (same_world d) c.act.ensures.grows))

pub act-requires-clause-may : goal.act-requires-clause-may
act-requires-clause-may c = c.handed-deed.ensures.may c.args.to
