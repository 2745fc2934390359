-- An event whose save is cut off: what was tried ends with the node, which is opened again as it would have been before.
use Rattle.std.proofs.Common.{◌≡◌, ℕ, Bool, false, List, [], ◌∷◌, refl, ap, sym, ◌∙◌, Option, Some, None, Result, Ok, Err, append-nil}
use Rattle.std.specs.Prelude.{OnOk, option_map, option_to_list}
use Rattle.xl_io.specs.Keepers.{may_hold}
use Rattle.xl_core.specs.Core.{Core, CoreReply, core_asks, core_happens, with_queues}
use Rattle.xl_core.specs.Node as nodes
use Rattle.xl_core.specs.Node.{Node, Event, Reply, Save, happens, opened_node, settings_of}
use Rattle.xl_core.specs.Issuing.Save.{Kept as AnsweredOk}
use Rattle.xl_core.specs.declared.event.CoreEvent.{CoreEvent}
use Rattle.xl_core.specs.declared.event.CoreEvent.TheVariants.{Issue, Timer}
use Rattle.xl_core.specs.declared.settings.Settings.{Settings}
use Rattle.xl_sched.specs.declared.event.Ask.{Ask}
use Rattle.xl_sched.specs.declared.event.Ask.TheVariants as ask
use Rattle.xl_sched.specs.declared.event.What.TheVariants as what
use Rattle.xl_world.specs.declared.act.NodeAnswer.{NodeAnswer}
use Rattle.xl_world.specs.declared.outcome.Outcome.{Outcome}
use Rattle.xl_world.specs.declared.place.Fate.{Fate}
use Rattle.xl_world.specs.declared.place.Fate.TheVariants.{Saved}
use Rattle.xl_world.specs.declared.place.Disk.{Disk}
use Rattle.xl_world.specs.declared.place.Place.{Place}
use Rattle.xl_world.specs.Emptying.{event_steps}
use Rattle.xl_world.specs.Disk.{after_save, answer_of, found, held_by, left_by, restored}
use Rattle.xl_world.specs.Schedule.{cut_at, cut_short, cut_steps, event_asked, node_asked, outcomes_at, restart, steps_at, told_in, told_of_reply}
use Rattle.xl_world.specs.Seen.{Answers, AnswersAt, acted_at, disk_in, after_note, outcomes_told, place_after, place_again, put_acted, put_again, with_forged, with_places}
use Rattle.xl_world.specs.World.{Again, Step, World, is_forged, disk_after, moment_in, place_at, put_place, reply_at, run, sent_in, step, set_by}
use Rattle.xl_world.proofs.Acting.{asked_fair, noted_ran}
use Rattle.xl_world.proofs.Emptying.{emptied, emptied_acts, emptied_node, emptied_then, event_ran}
use Rattle.xl_world.proofs.Keeping.{KeepsList, asking_keeps}
use Rattle.xl_world.proofs.Keeping.{core_keeps}
use Rattle.xl_world.proofs.Putting.{put_at, put_put}
use Rattle.xl_world.proofs.Reopening.{again_ran, found_held, restart_ran, torn_ran}
use Rattle.xl_core.proofs.Unasked.{unasked_alike}
use Rattle.xl_world.proofs.Runs.{run-append}
use Rattle.xl_world.proofs.Settling.{at_its_number}
use Rattle.xl_world.proofs.Telling.{told_append, told_once, told_ran}

-- WHAT A CORE IS OPENED WITH STAYS

same_settings : (a b : Node) → a.me ≡ b.me → a.keys ≡ b.keys → a.ledgers.limit ≡ b.ledgers.limit → a.validating ≡ b.validating → a.speak ≡ b.speak → a.list ≡ b.list → settings_of a ≡ settings_of b
same_settings a b p q r s t u = cc

by_node : (n : Node) (r : Reply) → KeepsList n r → settings_of r.node ≡ settings_of n
by_node n r keeps = same_settings r.node n keeps.0 keeps.1 keeps.2 keeps.3 keeps.4 keeps.5

-- over what asks a save
settings_stay : (core : Core) (e : CoreEvent) (save : Save) (s : ℕ) → core_asks core e ≡ Some s → settings_of (core_happens core e save).core.node ≡ settings_of core.node
settings_stay core (Issue now seq id full) save s asks =
    let e : Event = nodes.Issue now seq id full in by_node core.node (happens core.node e save) (asking_keeps core.node e save s asks)
settings_stay core (Timer now) save s asks =
    let e : Event = nodes.Timer now in by_node core.node (happens core.node e save) (asking_keeps core.node e save s asks)
settings_stay core other save s asks = cc

-- so a node that is opened again is as it would have been before what was tried
pub acted_again : (ps : List Place) (i at : ℕ) (e : CoreEvent) (fate : Fate) (k : Disk) (p : Place) (s : ℕ) → place_at i ps ≡ Some p → core_asks p.core e ≡ Some s →
    put_again at k (place_at i (acted_at i e fate ps)) (acted_at i e fate ps) ≡ put_again at k (place_at i ps) ps
acted_again ps i at e fate k p s here asks =
    let r : CoreReply = reply_at p e fate in
    let q : Place = place_after p e fate in
    let its : q.core.node.me ≡ i = (core_keeps p.core e (answer_of p.disk fate)).0 ∙ at_its_number i ps p here in
    let anew : Place = place_again q at k in
    ap (λ o. put_again at k (place_at i (put_acted e fate o ps)) (put_acted e fate o ps)) here
    ∙ (ap (λ o. put_again at k o (put_place q ps)) (put_at i q ps p its here)
    ∙ (put_put q anew ps refl
    ∙ (ap (λ (settings : Settings). put_place (let x : Place = record { core = with_queues (opened_node settings at k.in_force); disk = k } in x) ps) (settings_stay p.core e (answer_of p.disk fate) s asks)
    ∙ sym (ap (λ o. put_again at k o ps) here))))

-- A SAVE THAT IS CUT OFF

pub cut_torn : (w : World) (i at : ℕ) (new : Bool) (e : CoreEvent) (fate : Fate) (p : Place) (s : ℕ) → place_at i w.places ≡ Some p → core_asks p.core e ≡ Some s → moment_in e ≡ at →
    with_places w (put_again at (restored p.disk (left_by p.disk new (Some s))) (place_at i (acted_at i e fate w.places)) (acted_at i e fate w.places)) ≡ run w (cut_steps w at new i e)
cut_torn w i at new e fate p s here asks moment =
    let k : Disk = restored p.disk (left_by p.disk new (Some s)) in
    ap (with_places w) (acted_again w.places i at e fate k p s here asks)
    ∙ (ap (λ (m : ℕ). with_places w (put_again m k (place_at i w.places) w.places)) (sym moment)
    ∙ (torn_ran w i e new p s here asks
    ∙ (ap (λ o. run w (cut_short w at new i e p o)) (sym asks)
    ∙ ap (λ o. run w (cut_at w at new i e o)) (sym here))))

pub cut_torn_told : (w : World) (i at : ℕ) (new : Bool) (e : CoreEvent) (p : Place) (s : ℕ) → place_at i w.places ≡ Some p → core_asks p.core e ≡ Some s → told_in w (cut_steps w at new i e) ≡ []
cut_torn_told w i at new e p s here asks =
    ap (λ o. told_in w (cut_at w at new i e o)) here ∙ ap (λ o. told_in w (cut_short w at new i e p o)) asks

-- NO SAVE

-- what was tried is what comes of it
tried : (w : World) (i : ℕ) (e : CoreEvent) (fate : Fate) (p : Place) → place_at i w.places ≡ Some p → core_asks p.core e ≡ None → is_forged w p.core.node e ≡ false →
    with_forged w.forged (run w (event_steps w i e fate)) ≡ run w (event_steps w i e Saved)
tried w i e fate p here asks fair =
    ap (with_forged w.forged) (event_ran w i e fate ∙ ap (λ o. emptied_acts w i e fate o) here)
    ∙ (ap (λ (r : CoreReply). emptied_then w i false (set_by p.core.node.me e r.answer) r (disk_after p e fate)) (unasked_alike p.core e (answer_of p.disk fate) AnsweredOk asks)
    ∙ (ap (λ o. emptied_then w i false (set_by p.core.node.me e (reply_at p e Saved).answer) (reply_at p e Saved) (after_save p.disk o fate)) asks
    ∙ (sym (ap (λ o. emptied_then w i false (set_by p.core.node.me e (reply_at p e Saved).answer) (reply_at p e Saved) (after_save p.disk o Saved)) asks)
    ∙ (ap (λ (b : Bool). emptied_then w i b (set_by p.core.node.me e (reply_at p e Saved).answer) (reply_at p e Saved) (disk_after p e Saved)) (sym fair)
    ∙ sym (event_ran w i e Saved ∙ ap (λ o. emptied_acts w i e Saved o) here)))))

pub cut_noted : (w : World) (i : ℕ) (e : CoreEvent) (fate : Fate) (p : Place) (a : NodeAnswer) → place_at i w.places ≡ Some p → core_asks p.core e ≡ None → is_forged w p.core.node e ≡ false →
    AnswersAt i e fate w.places (Some a) → ((x : Place) (from : ℕ) → sent_in from (reply_at x e fate).answer ≡ []) → after_note (with_places w (acted_at i e fate w.places)) i a ≡ run w (event_steps w i e Saved)
cut_noted w i e fate p a here asks fair answers unsent = noted_ran w i e fate a answers unsent ∙ tried w i e fate p here asks fair

-- the node is opened again then
pub cut_whole : (w v : World) (i at : ℕ) (new : Bool) (e : CoreEvent) (p : Place) → place_at i w.places ≡ Some p → core_asks p.core e ≡ None → v ≡ run w (event_steps w i e Saved) →
    with_places v (put_again at (restored p.disk (left_by p.disk new None)) (place_at i v.places) v.places) ≡ run w (cut_steps w at new i e)
cut_whole w v i at new e p here asks is =
    let r : CoreReply = reply_at p e Saved in
    let last : Place = record { core = emptied w.numbers r.core; disk = disk_after p e Saved } in
    let n : ℕ = left_by p.disk new None in
    let ran : v ≡ emptied_then w i (is_forged w p.core.node e) (set_by p.core.node.me e r.answer) r (disk_after p e Saved) = is ∙ (event_ran w i e Saved ∙ ap (λ o. emptied_acts w i e Saved o) here) in
    let its : last.core.node.me ≡ i = ap (λ (m : Node). m.me) (emptied_node w.numbers r.core) ∙ ((core_keeps p.core e AnsweredOk).0 ∙ at_its_number i w.places p here) in
    let there : place_at i v.places ≡ Some last = ap (λ (u : World). place_at i u.places) ran ∙ put_at i last w.places p its here in
    let kept : last.disk ≡ p.disk = ap (λ o. after_save p.disk o Saved) asks in
    ap (λ (k : Disk). with_places v (put_again at (restored k n) (place_at i v.places) v.places)) (sym kept)
    ∙ (again_ran v i at n last there (ap (λ (k : Disk). may_hold (held_by k) n) kept ∙ found_held p.disk)
    ∙ (ap (λ (u : World). step u (Again i at n)) is
    ∙ (sym (run-append w (event_steps w i e Saved) (Again i at n ∷ []))
    ∙ (ap (λ o. run w (cut_short w at new i e p o)) (sym asks)
    ∙ ap (λ o. run w (cut_at w at new i e o)) (sym here)))))

pub cut_whole_told : (w : World) (i at : ℕ) (new : Bool) (e : CoreEvent) (fate : Fate) (p : Place) (a : NodeAnswer) → place_at i w.places ≡ Some p → core_asks p.core e ≡ None →
    AnswersAt i e fate w.places (Some a) → outcomes_told i a ≡ told_in w (cut_steps w at new i e)
cut_whole_told w i at new e fate p a here asks answers =
    let steps : List Step = event_steps w i e Saved in
    told_ran w i e fate a answers
    ∙ (told_once w i e fate
    ∙ (ap (λ o. told_of_reply i (option_map (λ q. reply_at q e fate) o)) here
    ∙ (ap (λ (r : CoreReply). told_of_reply i (Some r)) (unasked_alike p.core e (answer_of p.disk fate) AnsweredOk asks)
    ∙ (sym (ap (λ o. told_of_reply i (option_map (λ q. reply_at q e Saved) o)) here)
    ∙ (sym (told_once w i e Saved)
    ∙ (sym (append-nil (told_in w steps))
    ∙ (sym (told_append w steps (Again i at (left_by p.disk new None) ∷ []))
    ∙ (ap (λ o. told_in w (cut_short w at new i e p o)) (sym asks)
    ∙ ap (λ o. told_in w (cut_at w at new i e o)) (sym here)))))))))

-- no node of the number
pub cut_nowhere : (w : World) (i at : ℕ) (new : Bool) (e : CoreEvent) → place_at i w.places ≡ None → cut_steps w at new i e ≡ []
cut_nowhere w i at new e none = ap (λ o. cut_at w at new i e o) none

-- AS THE CODE GOES

asked_moment : (at : ℕ) (ask : Ask) → moment_in (event_asked at ask) ≡ at
asked_moment at (ask.Issue node seq id full) = refl
asked_moment at (ask.Timer node) = refl

same_disk : (k x : Disk) → Some k ≡ Some x → k ≡ x
same_disk k x e = cc

no_disk : (k : Disk) → Some k ≡ (let o : Option Disk = None in o) → ⊥
no_disk k e = cc

-- the save that was asked was cut off
pub record IsTorn (w v : World) (steps : List Step) (told : List Outcome) : Type 0 where
  pub world : v ≡ run w steps
  pub tells : [] ≡ told

pub cuts_torn : (w : World) (at : ℕ) (new : Bool) (a_ask : Ask) (i : ℕ) (e : CoreEvent) (fate : Fate) (k : Disk) (a : NodeAnswer) (s : ℕ) → i ≡ node_asked a_ask → e ≡ event_asked at a_ask → Some k ≡ disk_in i w.places →
    AnswersAt i e fate w.places (Some a) → a.asked ≡ Some s →
    IsTorn w (with_places w (put_again at (restored k (left_by k new (Some s))) (place_at i (acted_at i e fate w.places)) (acted_at i e fate w.places))) (steps_at w at (what.Cut new a_ask)) (outcomes_at w at (what.Cut new a_ask))
cuts_torn w at new a_ask i e fate k a s its is held answers asked = by_place (place_at i w.places) refl held answers
  where
    by_place : (o : Option Place) → place_at i w.places ≡ o → Some k ≡ option_map (λ (p : Place). p.disk) o → Answers e fate o (Some a) →
        IsTorn w (with_places w (put_again at (restored k (left_by k new (Some s))) (place_at i (acted_at i e fate w.places)) (acted_at i e fate w.places))) (steps_at w at (what.Cut new a_ask)) (outcomes_at w at (what.Cut new a_ask))
    by_place None here none is_answer = absurd (no_disk k none)
    by_place (Some p) here kept is_answer =
        let same : k ≡ p.disk = same_disk k p.disk kept in
        let asks : core_asks p.core e ≡ Some s = sym is_answer.asked ∙ asked in
        let cut : cut_steps w at new i e ≡ steps_at w at (what.Cut new a_ask) = ap (λ (j : ℕ). cut_steps w at new j e) its ∙ ap (λ (x : CoreEvent). cut_steps w at new (node_asked a_ask) x) is in
        record {
          world = ap (λ (x : Disk). with_places w (put_again at (restored x (left_by x new (Some s))) (place_at i (acted_at i e fate w.places)) (acted_at i e fate w.places))) same
              ∙ (cut_torn w i at new e fate p s here asks (ap moment_in is ∙ asked_moment at a_ask) ∙ ap (run w) cut);
          tells = sym (ap (told_in w) (sym cut) ∙ cut_torn_told w i at new e p s here asks);
        }

-- no save was asked
pub record IsUncut (w v : World) (told : List Outcome) (steps : List Step) (all : List Outcome) : Type 0 where
  pub world : v ≡ run w steps
  pub tells : told ≡ all

pub cuts_none : (w v : World) (at : ℕ) (new : Bool) (a_ask : Ask) (i : ℕ) (e : CoreEvent) (fate : Fate) (k : Disk) (a : NodeAnswer) → i ≡ node_asked a_ask → e ≡ event_asked at a_ask → Some k ≡ disk_in i w.places →
    AnswersAt i e fate w.places (Some a) → a.asked ≡ None → ((x : Place) (from : ℕ) → sent_in from (reply_at x e fate).answer ≡ []) → v ≡ after_note (with_places w (acted_at i e fate w.places)) i a →
    IsUncut w (with_places v (put_again at (restored k (found k)) (place_at i v.places) v.places)) (outcomes_told i a) (steps_at w at (what.Cut new a_ask)) (outcomes_at w at (what.Cut new a_ask))
cuts_none w v at new a_ask i e fate k a its is held answers asked unsent noted_so = by_place (place_at i w.places) refl held answers
  where
    by_place : (o : Option Place) → place_at i w.places ≡ o → Some k ≡ option_map (λ (p : Place). p.disk) o → Answers e fate o (Some a) →
        IsUncut w (with_places v (put_again at (restored k (found k)) (place_at i v.places) v.places)) (outcomes_told i a) (steps_at w at (what.Cut new a_ask)) (outcomes_at w at (what.Cut new a_ask))
    by_place None here none is_answer = absurd (no_disk k none)
    by_place (Some p) here kept is_answer =
        let same : k ≡ p.disk = same_disk k p.disk kept in
        let asks : core_asks p.core e ≡ None = sym is_answer.asked ∙ asked in
        let fair : is_forged w p.core.node e ≡ false = ap (is_forged w p.core.node) is ∙ asked_fair at a_ask w p.core.node in
        let cut : cut_steps w at new i e ≡ steps_at w at (what.Cut new a_ask) = ap (λ (j : ℕ). cut_steps w at new j e) its ∙ ap (λ (x : CoreEvent). cut_steps w at new (node_asked a_ask) x) is in
        record {
          world = ap (λ (x : Disk). with_places v (put_again at (restored x (found x)) (place_at i v.places) v.places)) same
              ∙ (cut_whole w v i at new e p here asks (noted_so ∙ cut_noted w i e fate p a here asks fair answers unsent) ∙ ap (run w) cut);
          tells = cut_whole_told w i at new e fate p a here asks answers ∙ ap (told_in w) cut;
        }

-- there is no node of the number
pub cuts_nowhere : (w : World) (at : ℕ) (new : Bool) (a_ask : Ask) (i : ℕ) → i ≡ node_asked a_ask → None ≡ disk_in i w.places → steps_at w at (what.Cut new a_ask) ≡ []
cuts_nowhere w at new a_ask i its none = by_place (place_at i w.places) refl none
  where
    by_place : (o : Option Place) → place_at i w.places ≡ o → None ≡ option_map (λ (p : Place). p.disk) o → steps_at w at (what.Cut new a_ask) ≡ []
    by_place None here is_none = ap (λ (j : ℕ). cut_steps w at new j (event_asked at a_ask)) (sym its) ∙ cut_nowhere w i at new (event_asked at a_ask) here
    by_place (Some p) here is_none = absurd (no_disk p.disk (sym is_none))

-- RESTARTS

pub restarts : (w : World) (at i : ℕ) (k : Disk) → Some k ≡ disk_in i w.places → with_places w (put_again at (restored k (found k)) (place_at i w.places) w.places) ≡ run w (steps_at w at (what.Restart i))
restarts w at i k held = by_place (place_at i w.places) refl held
  where
    by_place : (o : Option Place) → place_at i w.places ≡ o → Some k ≡ option_map (λ (p : Place). p.disk) o →
        with_places w (put_again at (restored k (found k)) (place_at i w.places) w.places) ≡ run w (steps_at w at (what.Restart i))
    by_place None here none = absurd (no_disk k none)
    by_place (Some p) here kept =
        ap (λ (x : Disk). with_places w (put_again at (restored x (found x)) (place_at i w.places) w.places)) (same_disk k p.disk kept)
        ∙ (restart_ran w i at p here ∙ ap (λ o. run w (option_to_list (option_map (restart at) o))) (sym here))

pub any_ok : {X E : Type 0} (P : Type 0) (r : Result X E) → P → OnOk r P
any_ok P (Ok x) p = p
any_ok P (Err e) p = tt
