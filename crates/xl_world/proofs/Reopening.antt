-- Nodes that are opened anew, and events whose save is cut off.
use Rattle.std.proofs.Common.{◌≡◌, ℕ, Bool, true, false, List, [], ◌∷◌, refl, ap, sym, ◌∙◌, Option, Some, None, append-nil}
use Rattle.std.specs.Prelude.{◌==◌, ◌||◌, if◌then◌else◌, unwrap_or}
use Rattle.std.proofs.lemmas.Bool.{cond-true, eq-eqb, or_left, or_right}
use Rattle.xl_io.specs.Keepers.{is_asked, may_hold}
use Rattle.xl_lists.specs.declared.report.Report.{Report as Reported}
use Rattle.xl_core.specs.Core.{core_asks}
use Rattle.xl_core.specs.declared.event.CoreEvent.{CoreEvent}
use Rattle.xl_world.specs.declared.place.Disk.{Disk}
use Rattle.xl_world.specs.declared.place.Place.{Place}
use Rattle.xl_world.specs.declared.plan.InForce.{InForce}
use Rattle.xl_world.specs.Sending.{Sent}
use Rattle.xl_world.specs.Disk.{found, held_by, left_by, restored}
use Rattle.xl_world.specs.Schedule.{restart}
use Rattle.xl_world.specs.Seen.{put_again, with_places}
use Rattle.xl_world.specs.World.{Again, Torn, World, again, asked_at, moment_in, place_at, reopened_world, run, step, torn_world}
use Rattle.xl_world.proofs.Settling.{at_its_number}

-- WHAT A KEEPER MAY HOLD

-- a restart finds a number that the disk may hold
pub found_held : (k : Disk) → may_hold (held_by k) (found k) ≡ true
found_held k = by_written k.written k.asked
  where
    by_written : (written : Bool) (asked : Option ℕ) → (let n : ℕ = if written then unwrap_or asked k.in_force else k.in_force in (n == k.in_force || is_asked asked n) ≡ true)
    by_written true None = or_left _ _ (eq-eqb k.in_force k.in_force refl)
    by_written true (Some s) = or_right (s == k.in_force) (s == s) (eq-eqb s s refl)
    by_written false asked = or_left _ _ (eq-eqb k.in_force k.in_force refl)

-- a save that is cut off leaves a number that the disk may hold then
pub left_held : (k : Disk) (new : Bool) (s : ℕ) → may_hold (held_by (record k { asked = Some s })) (left_by k new (Some s)) ≡ true
left_held k true s = or_right (s == k.in_force) (s == s) (eq-eqb s s refl)
left_held k false s = or_left _ _ (eq-eqb k.in_force k.in_force refl)

-- STEPS

same_lists : (w : World) {f f' : List Sent} {r r' : List Reported} {l l' : List InForce} (ps : List Place) → f ≡ f' → r ≡ r' → l ≡ l' →
    record w { places = ps; sent = f; reports = r; lists = l } ≡ record w { places = ps; sent = f'; reports = r'; lists = l' }
same_lists w {f} {f'} {r} {r'} {l} {l'} ps a b c =
    ap (λ (x : List Sent). record w { places = ps; sent = x; reports = r; lists = l }) a
    ∙ (ap (λ (x : List Reported). record w { places = ps; sent = f'; reports = x; lists = l }) b ∙ ap (λ (x : List InForce). record w { places = ps; sent = f'; reports = r'; lists = x }) c)

-- a node opened anew with a number that its disk may hold
pub again_ran : (w : World) (i now number : ℕ) (p : Place) → place_at i w.places ≡ Some p → may_hold (held_by p.disk) number ≡ true →
    with_places w (put_again now (restored p.disk number) (place_at i w.places) w.places) ≡ step w (Again i now number)
again_ran w i now number p at may =
    ap (λ o. with_places w (put_again now (restored p.disk number) o w.places)) at
    ∙ (same_lists w _ (sym (append-nil w.sent)) (sym (append-nil w.reports)) (sym (append-nil w.lists))
    ∙ (sym (cond-true (may_hold (held_by p.disk) number) (reopened_world w i p now number) w may)
    ∙ ap (λ o. again w i now number o) (sym at)))

-- a restart
pub restart_ran : (w : World) (i now : ℕ) (p : Place) → place_at i w.places ≡ Some p →
    with_places w (put_again now (restored p.disk (found p.disk)) (place_at i w.places) w.places) ≡ run w (restart now p ∷ [])
restart_ran w i now p at =
    again_ran w i now (found p.disk) p at (found_held p.disk) ∙ ap (λ (k : ℕ). step w (Again k now (found p.disk))) (sym (at_its_number i w.places p at))

-- an event that stops in its save
pub torn_ran : (w : World) (i : ℕ) (e : CoreEvent) (new : Bool) (p : Place) (s : ℕ) → place_at i w.places ≡ Some p → core_asks p.core e ≡ Some s →
    with_places w (put_again (moment_in e) (restored p.disk (left_by p.disk new (Some s))) (place_at i w.places) w.places) ≡ step w (Torn i e (left_by p.disk new (Some s)))
torn_ran w i e new p s at asked =
    let n : ℕ = left_by p.disk new (Some s) in
    let q : Place = record { core = p.core; disk = record p.disk { asked = Some s } } in
    ap (λ o. with_places w (put_again (moment_in e) (restored p.disk n) o w.places)) at
    ∙ (same_lists w _ (sym (append-nil w.sent)) (sym (append-nil w.reports)) (sym (append-nil w.lists))
    ∙ (sym (cond-true (may_hold (held_by q.disk) n) (reopened_world w i q (moment_in e) n) w (left_held p.disk new s))
    ∙ (ap (λ o. torn_world w i (moment_in e) n (Some p) o) (sym asked)
    ∙ ap (λ o. torn_world w i (moment_in e) n o (asked_at o e)) (sym at))))
