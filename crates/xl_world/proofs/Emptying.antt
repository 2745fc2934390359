-- What an event leaves in a world whose cores are emptied after each event.
use Rattle.std.proofs.Common.{◌≡◌, ℕ, zero, suc, Bool, List, [], ◌∷◌, ◌++◌, length, map, refl, ap, sym, ◌∙◌, Option, Some, None, append_assoc, append-nil}
use Rattle.std.specs.Prelude.{◌==◌, if◌then◌else◌, option_map, option_to_list}
use Rattle.std.proofs.lemmas.Bool.{cond_both}
use Rattle.xl_base.specs.Counts.{one_more}
use Rattle.xl_lists.specs.Agreement.{with_said}
use Rattle.xl_lists.specs.declared.report.Report.{Report as Reported}
use Rattle.xl_core.specs.Answers.{given_in}
use Rattle.xl_core.specs.Core.{Core, CoreReply, core_happens}
use Rattle.xl_core.specs.Node.{Node}
use Rattle.xl_core.specs.Issuing.Save.{Kept as AnsweredOk}
use Rattle.xl_core.specs.declared.event.CoreEvent.{CoreEvent}
use Rattle.xl_core.specs.declared.event.CoreEvent.TheVariants.{Drain, Reports}
use Rattle.xl_wire.specs.Lengths.{longest_frame}
use Rattle.xl_world.specs.declared.place.Fate.{Fate}
use Rattle.xl_world.specs.declared.place.Fate.TheVariants.{Saved}
use Rattle.xl_world.specs.declared.place.Disk.{Disk}
use Rattle.xl_world.specs.declared.place.Place.{Place}
use Rattle.xl_world.specs.Sending.{Sent}
use Rattle.xl_world.specs.Emptying.{after_events, drains_of, drains, drains_for, drains_in_turn, drains_and_report, emptying_at, event_steps, given_by, handed_out}
use Rattle.xl_world.specs.Disk.{answer_of}
use Rattle.xl_world.specs.declared.plan.InForce.{InForce}
use Rattle.xl_world.specs.World.{World, Act, acts, is_forged, disk_after, place_at, put_place, reply_at, reported_by, run, said_by, sent_in, settled_world, step, set_by}
use Rattle.xl_world.proofs.Keeping.{core_keeps}
use Rattle.xl_world.proofs.Putting.{put_at, put_put, put_same}
use Rattle.xl_world.proofs.Settling.{at_its_number}

-- DRAINS

abbrev pub IsDrain : CoreEvent → Type 0
IsDrain (Drain member room) = Unit {0}
IsDrain other = ⊥

abbrev pub AreDrains : List CoreEvent → Type 0
AreDrains [] = Unit {0}
AreDrains (e ∷ es) = IsDrain e × AreDrains es

-- what holds of each drain
pub drain_by : (P : CoreEvent → Type 0) → ((m room : ℕ) → P (Drain m room)) → (e : CoreEvent) → IsDrain e → P e
drain_by P each (Drain member room) is = each member room
drain_by P each other is = absurd is

pub drains_are : (core : Core) (m more : ℕ) → AreDrains (drains core m more)
drains_are core m zero = (tt, tt)
drains_are core m (suc more) =
    let r : CoreReply = core_happens core (Drain m longest_frame) AnsweredOk in
    (tt, cond_both (length (given_in r.answer) == 0) [] (drains r.core m more) AreDrains (λ _. tt) (λ _. drains_are r.core m more))

append_are : (es fs : List CoreEvent) → AreDrains es → AreDrains fs → AreDrains (es ++ fs)
append_are [] fs are more = more
append_are (e ∷ es) fs are more = (are.0, append_are es fs are.1 more)

pub turns_are : (core : Core) (ms : List ℕ) → AreDrains (drains_in_turn core ms)
turns_are core [] = tt
turns_are core (m ∷ ms) =
    append_are (drains_for core m) (drains_in_turn (after_events core (drains_for core m)) ms) (drains_are core m _) (turns_are (after_events core (drains_for core m)) ms)

-- a drain changes neither the node nor what is untaken
pub node_still : (core : Core) (es : List CoreEvent) → AreDrains es → (after_events core es).node ≡ core.node
node_still core [] are = refl
node_still core (e ∷ es) are =
    node_still (core_happens core e AnsweredOk).core es are.1 ∙ drain_by (λ d. (core_happens core d AnsweredOk).core.node ≡ core.node) (λ m room. refl) e are.0

pub untaken_still : (core : Core) (es : List CoreEvent) → AreDrains es → (after_events core es).untaken ≡ core.untaken
untaken_still core [] are = refl
untaken_still core (e ∷ es) are =
    untaken_still (core_happens core e AnsweredOk).core es are.1 ∙ drain_by (λ d. (core_happens core d AnsweredOk).core.untaken ≡ core.untaken) (λ m room. refl) e are.0

-- THEIR STEPS

-- the world with a place changed, and with these frames sent
abbrev pub moved : World → Place → List Sent → World
moved w q frames = record { liars = w.liars; numbers = w.numbers; places = put_place q w.places; sent = w.sent ++ frames; mark = w.mark; said = w.said; reports = w.reports; lists = w.lists; forged = w.forged; spent = w.spent }

-- what changes of a world
abbrev with_lists : World → List Place → List Sent → List Reported → List InForce → World
with_lists w places sent reports lists =
    record { liars = w.liars; numbers = w.numbers; places = places; sent = sent; mark = w.mark; said = w.said; reports = reports; lists = lists; forged = w.forged; spent = w.spent }

abbrev once : Place → CoreEvent → Place
once p e = record { core = (core_happens p.core e AnsweredOk).core; disk = p.disk }

abbrev frames_once : Place → CoreEvent → List Sent
frames_once p e = sent_in p.core.node.me (core_happens p.core e AnsweredOk).answer

drain_step : (w : World) (i : ℕ) (p : Place) (e : CoreEvent) → place_at i w.places ≡ Some p → IsDrain e → step w (Act i e Saved) ≡ moved w (once p e) (frames_once p e)
drain_step w i p e at is =
    ap (λ o. acts w i e Saved o) at
    ∙ drain_by (λ d. acts w i d Saved (Some p) ≡ moved w (once p d) (frames_once p d))
    (λ m room.
    ap (λ (rs : List Reported). with_lists w (put_place (once p (Drain m room)) w.places) (w.sent ++ frames_once p (Drain m room)) rs (w.lists ++ [])) (append-nil w.reports)
    ∙ ap (λ (ls : List InForce). with_lists w (put_place (once p (Drain m room)) w.places) (w.sent ++ frames_once p (Drain m room)) w.reports ls) (append-nil w.lists)) e is

pub drains_run : (w : World) (i : ℕ) (p : Place) (es : List CoreEvent) → place_at i w.places ≡ Some p → AreDrains es →
    run w (map (λ e. Act i e Saved) es) ≡ moved w (record { core = after_events p.core es; disk = p.disk }) (given_by p.core es)
drains_run w i p [] at are =
    ap (λ (ps : List Place). with_lists w ps w.sent w.reports w.lists) (sym (put_same i w.places p at)) ∙ ap (λ (fs : List Sent). with_lists w (put_place p w.places) fs w.reports w.lists) (sym (append-nil w.sent))
drains_run w i p (e ∷ es) at are =
    let q : Place = once p e in
    let frames : List Sent = frames_once p e in
    let last : Place = record { core = after_events q.core es; disk = p.disk } in
    let same : q.core.node ≡ p.core.node = drain_by (λ d. (core_happens p.core d AnsweredOk).core.node ≡ p.core.node) (λ m room. refl) e are.0 in
    let number : q.core.node.me ≡ i = ap (λ (n : Node). n.me) same ∙ at_its_number i w.places p at in
    ap (λ (v : World). run v (map (λ d. Act i d Saved) es)) (drain_step w i p e at are.0)
    ∙ drains_run (moved w q frames) i q es (put_at i q w.places p number at) are.1
    ∙ ap (λ (ps : List Place). with_lists w ps ((w.sent ++ frames) ++ given_by q.core es) w.reports w.lists) (put_put q last w.places (ap (λ (n : Node). n.me) (node_still q.core es are.1)))
    ∙ ap (λ (fs : List Sent). with_lists w (put_place last w.places) fs w.reports w.lists) (append_assoc w.sent frames (given_by q.core es))

-- after the report that arose is handed out
reports_step : (w : World) (i : ℕ) (p : Place) → place_at i w.places ≡ Some p → step w (Act i (Reports 1) Saved) ≡ moved w (record { core = handed_out p.core; disk = p.disk }) []
reports_step w i p at =
    let q : Place = record { core = handed_out p.core; disk = p.disk } in
    ap (λ o. acts w i (Reports 1) Saved o) at ∙ ap (λ (rs : List Reported). with_lists w (put_place q w.places) (w.sent ++ []) rs (w.lists ++ [])) (append-nil w.reports)
    ∙ ap (λ (ls : List InForce). with_lists w (put_place q w.places) (w.sent ++ []) w.reports ls) (append-nil w.lists)

-- a core once it was emptied
abbrev pub emptied : List ℕ → Core → Core
emptied numbers core = after_events (handed_out core) (drains_of numbers (handed_out core))

abbrev pub given_then : List ℕ → Core → List Sent
given_then numbers core = given_by (handed_out core) (drains_of numbers (handed_out core))

pub emptied_node : (numbers : List ℕ) (core : Core) → (emptied numbers core).node ≡ core.node
emptied_node numbers core = node_still (handed_out core) (drains_of numbers (handed_out core)) (turns_are (handed_out core) _)

emptying_run : (numbers : List ℕ) (w : World) (i : ℕ) (p : Place) → place_at i w.places ≡ Some p →
    run w (map (λ e. Act i e Saved) (drains_and_report numbers p.core)) ≡ moved w (record { core = emptied numbers p.core; disk = p.disk }) (given_then numbers p.core)
emptying_run numbers w i p at =
    let q : Place = record { core = handed_out p.core; disk = p.disk } in
    let es : List CoreEvent = drains_of numbers q.core in
    let last : Place = record { core = emptied numbers p.core; disk = p.disk } in
    ap (λ (v : World). run v (map (λ e. Act i e Saved) es)) (reports_step w i p at)
    ∙ drains_run (moved w q []) i q es (put_at i q w.places p (at_its_number i w.places p at) at) (turns_are q.core _)
    ∙ ap (λ (ps : List Place). with_lists w ps ((w.sent ++ []) ++ given_by q.core es) w.reports w.lists) (put_put q last w.places (ap (λ (n : Node). n.me) (node_still q.core es (turns_are q.core _))))
    ∙ ap (λ (fs : List Sent). with_lists w (put_place last w.places) (fs ++ given_by q.core es) w.reports w.lists) (append-nil w.sent)

-- AN EVENT AND WHAT FOLLOWS IT

-- the world after what came of an event at a place, once its core is emptied
abbrev pub emptied_then : World → ℕ → Bool → Option InForce → CoreReply → Disk → World
emptied_then w i forged set r disk = record {
  liars = w.liars;
  numbers = w.numbers;
  places = put_place (let x : Place = record { core = emptied w.numbers r.core; disk = disk } in x) w.places;
  sent = (w.sent ++ sent_in r.core.node.me r.answer) ++ given_then w.numbers r.core;
  mark = w.mark;
  said = with_said w.said (option_map (said_by i) r.issued);
  reports = w.reports ++ option_to_list (option_map (reported_by r.core.node) r.report);
  lists = w.lists ++ option_to_list set;
  forged = if forged then one_more w.forged else w.forged;
  spent = w.spent;
}

abbrev pub emptied_acts : World → ℕ → CoreEvent → Fate → Option Place → World
emptied_acts w i e fate None = w
emptied_acts w i e fate (Some p) =
    let r : CoreReply = reply_at p e fate in
    emptied_then w i (is_forged w p.core.node e) (set_by p.core.node.me e r.answer) r (disk_after p e fate)

-- the steps of an event leave that
pub event_ran : (w : World) (i : ℕ) (e : CoreEvent) (fate : Fate) → run w (event_steps w i e fate) ≡ emptied_acts w i e fate (place_at i w.places)
event_ran w i e fate = by_place (place_at i w.places) refl
  where
    by_place : (o : Option Place) → place_at i w.places ≡ o → run (acts w i e fate o) (emptying_at w.numbers i e fate o) ≡ emptied_acts w i e fate o
    by_place None at = refl
    by_place (Some p) at =
        let r : CoreReply = reply_at p e fate in
        let k : Disk = disk_after p e fate in
        let q : Place = record { core = r.core; disk = k } in
        let last : Place = record { core = emptied w.numbers r.core; disk = k } in
        let v : World = settled_world w i (is_forged w p.core.node e) (set_by p.core.node.me e r.answer) r k in
        let its : r.core.node.me ≡ i = (core_keeps p.core e (answer_of p.disk fate)).0 ∙ at_its_number i w.places p at in
        emptying_run w.numbers v i q (put_at i q w.places p its at)
        ∙ ap (λ (ps : List Place). with_lists v ps (v.sent ++ given_then w.numbers r.core) v.reports v.lists) (put_put q last w.places (ap (λ (n : Node). n.me) (emptied_node w.numbers r.core)))
