-- What the code notes of an answer is what the steps of its event leave.
use Rattle.std.proofs.Common.{◌≡◌, ℕ, Bool, true, false, List, [], ◌++◌, length, refl, arith, ap, sym, subst, ◌∙◌, Option, Some, None, append-nil}
use Rattle.std.specs.Prelude.{◌==◌, ◌&&◌, nat_le, not, option_map, option_to_list, slice_get, if◌then◌else◌}
use Rattle.std.specs.Str.{bytes_eq}
use Rattle.std.proofs.lemmas.List.Folds.{list_any_at}
use Rattle.std.proofs.lemmas.Option.{slice_get_within, get_or_from_slice_get}
use Rattle.std.proofs.lemmas.Slice.Eq.{bytes_eq-Decides}
use Rattle.xl_base.specs.Counts.{one_more}
use Rattle.xl_lists.specs.Lists.{is_on}
use Rattle.xl_tags.specs.Opening.{is_sealed}
use Rattle.xl_tags.specs.Rings.{Ring, schedule_ring}
use Rattle.xl_wire.specs.Heads.{Split, split_of}
use Rattle.xl_wire.specs.Heads.Split.{Whole, Need, Refused as NoFrame}
use Rattle.xl_wire.specs.Kinds.{span}
use Rattle.xl_lists.specs.Agreement.{with_said}
use Rattle.xl_lists.specs.declared.report.Report.{Report as Reported}
use Rattle.xl_lists.specs.declared.said.SaidLedger.{SaidLedger}
use Rattle.xl_core.specs.Core.{Core, CoreReply, core_happens}
use Rattle.xl_core.specs.Hearing.{bytes_as_sealed}
use Rattle.xl_core.specs.Node.{Node, Save, TimerOutcome, timer_reply, timer_outcome, at_moment}
use Rattle.xl_core.specs.Timer.TimerOutcome.{Quiet, Ending}
use Rattle.xl_core.specs.declared.event.CoreEvent.{CoreEvent}
use Rattle.xl_core.specs.declared.event.CoreEvent.TheVariants.{Frame}
use Rattle.xl_core.specs.declared.report.Report.{Report}
use Rattle.xl_core.proofs.Timing.{submit_either, relist_either}
use Rattle.xl_sched.specs.declared.event.Ask.{Ask}
use Rattle.xl_sched.specs.declared.event.Ask.TheVariants as ask
use Rattle.xl_core.specs.declared.deed.Deed.{Deed}
use Rattle.xl_core.specs.declared.deed.Deed.TheVariants as deed
use Rattle.xl_world.specs.declared.act.NodeAnswer.{NodeAnswer}
use Rattle.xl_world.specs.declared.place.Fate.{Fate}
use Rattle.xl_world.specs.declared.place.Fate.TheVariants.{Saved}
use Rattle.xl_world.specs.declared.place.Place.{Place}
use Rattle.xl_world.specs.declared.plan.InForce.{InForce}
use Rattle.xl_world.specs.Sending.{Sent}
use Rattle.xl_world.specs.Emptying.{event_steps}
use Rattle.xl_world.specs.Forgeries.{forges, was_sent}
use Rattle.xl_world.specs.Disk.{answer_of}
use Rattle.xl_world.specs.Rested.{IsAtRest, IsRested}
use Rattle.xl_world.specs.Schedule.{ask_steps, delivery, event_asked, node_asked}
use Rattle.xl_world.specs.Seen.{Answers, AnswersAt, acted_at, deed_event, forged_at, given_at, list_noted, after_note, place_after, place_drained, put_acted, put_drained, report_noted, with_forged, with_places}
use Rattle.xl_world.specs.World.{Step, World, is_forged, disk_after, place_at, put_place, reply_at, reported_by, run, said_by, sent_in, set_by}
use Rattle.xl_world.proofs.CoreSteps.{frame_plain, issue_plain}
use Rattle.xl_world.proofs.Emptying.{emptied_acts, emptied_node, emptied_then, event_ran, given_then}
use Rattle.xl_world.proofs.Keeping.{core_keeps}
use Rattle.xl_world.proofs.Putting.{put_at, put_put}
use Rattle.xl_world.proofs.Resting.{rested_after}
use Rattle.xl_world.proofs.Seats.{some_same}
use Rattle.xl_world.proofs.Settling.{at_its_number}

-- WHAT HAPPENS GIVES NO FRAMES

completed_unsent : (t : TimerOutcome) (save : Save) (from : ℕ) → sent_in from (timer_reply t save).answer ≡ []
completed_unsent (Quiet n beat said) save from = refl
completed_unsent (Ending n said h place moved_on) save from = refl

pub deed_unsent : (core : Core) (i : ℕ) (d : Deed) (save : Save) (from : ℕ) → sent_in from (core_happens core (deed_event i d) save).answer ≡ []
deed_unsent core i (deed.Issue now seq id full) save from = (issue_plain core.node now seq id full save).sent from
deed_unsent core i (deed.Frame now bytes) save from = (frame_plain core.node now bytes.now save).sent from
deed_unsent core i (deed.Sealed now bytes) save from = (frame_plain core.node now (bytes_as_sealed (schedule_ring i) bytes.now) save).sent from
deed_unsent core i (deed.Timer now) save from = completed_unsent (timer_outcome (at_moment now core.node)) save from
deed_unsent core i (deed.Submit now tx) save from =
    submit_either (λ r. sent_in from r.answer ≡ []) (at_moment now core.node) tx (λ _. refl) refl
deed_unsent core i (deed.Relist now list) save from =
    relist_either (λ r. sent_in from r.answer ≡ []) (at_moment now core.node) list.now (λ _. refl) (λ _. refl)
deed_unsent core i other save from = refl

-- THE LISTS

abbrev pub with_all : World → List Place → List Sent → List SaidLedger → List Reported → List InForce → World
with_all w places sent said reports lists =
    record { liars = w.liars; numbers = w.numbers; places = places; sent = sent; mark = w.mark; said = said; reports = reports; lists = lists; forged = w.forged; spent = w.spent }

same_all : (w : World) {p p' : List Place} {f f' : List Sent} {s s' : List SaidLedger} {r r' : List Reported} {l l' : List InForce} → p ≡ p' → f ≡ f' → s ≡ s' → r ≡ r' → l ≡ l' → with_all w p f s r l ≡ with_all w p' f' s' r' l'
same_all w {p} {p'} {f} {f'} {s} {s'} {r} {r'} {l} {l'} a b c d e =
    ap (λ (x : List Place). with_all w x f s r l) a
    ∙ (ap (λ (x : List Sent). with_all w p' x s r l) b
    ∙ (ap (λ (x : List SaidLedger). with_all w p' f' x r l) c ∙ (ap (λ (x : List Reported). with_all w p' f' s' x l) d ∙ ap (λ (x : List InForce). with_all w p' f' s' r' x) e)))

-- the node of a number answers, and that is noted
pub noted_ran : (w : World) (i : ℕ) (e : CoreEvent) (fate : Fate) (a : NodeAnswer) → AnswersAt i e fate w.places (Some a) → ((p : Place) (from : ℕ) → sent_in from (reply_at p e fate).answer ≡ []) →
    after_note (with_places w (acted_at i e fate w.places)) i a ≡ with_forged w.forged (run w (event_steps w i e fate))
noted_ran w i e fate a answers unsent = by_place (place_at i w.places) refl answers ∙ ap (with_forged w.forged) (sym (event_ran w i e fate))
  where
    by_place : (o : Option Place) → place_at i w.places ≡ o → Answers e fate o (Some a) → after_note (with_places w (put_acted e fate o w.places)) i a ≡ with_forged w.forged (emptied_acts w i e fate o)
    by_place None at never = absurd never
    by_place (Some p) at is =
        let r : CoreReply = reply_at p e fate in
        let q : Place = place_after p e fate in
        let ps : List Place = put_place q w.places in
        let its : q.core.node.me ≡ i = (core_keeps p.core e (answer_of p.disk fate)).0 ∙ at_its_number i w.places p at in
        let found : place_at i ps ≡ Some q = put_at i q w.places p its at in
        let last : Place = place_drained w.numbers q in
        let same_me : p.core.node.me ≡ i = at_its_number i w.places p at in
        same_all w
        (ap (λ o. put_drained w.numbers o ps) found ∙ put_put q last w.places (ap (λ (n : Node). n.me) (emptied_node w.numbers r.core)))
        (ap (λ o. w.sent ++ given_at w.numbers o) found
        ∙ ap (λ (fs : List Sent). fs ++ given_then w.numbers r.core) (sym (append-nil w.sent) ∙ ap (λ (fs : List Sent). w.sent ++ fs) (sym (unsent p r.core.node.me))))
        (ap (with_said w.said) (is.said ∙ ap (λ (m : ℕ). option_map (said_by m) r.issued) same_me))
        (ap (λ (o : Option Place). w.reports ++ option_to_list (report_noted a.report o)) found
        ∙ ap (λ (o : Option Report). w.reports ++ option_to_list (option_map (reported_by r.core.node) o)) is.report)
        (ap (λ (o : Option Place). w.lists ++ option_to_list (list_noted a.relisted o)) found
        ∙ ap (λ (o : Option InForce). w.lists ++ option_to_list o) is.set)

-- where the places are as after an event, no report is untaken
pub acted_rests : (w : World) (i : ℕ) (e : CoreEvent) (fate : Fate) → IsAtRest w → (q : Place) → place_at i (acted_at i e fate w.places) ≡ Some q → IsRested q.core
acted_rests w i e fate rest q h = by_place (place_at i w.places) refl h
  where
    by_place : (o : Option Place) → place_at i w.places ≡ o → place_at i (put_acted e fate o w.places) ≡ Some q → IsRested q.core
    by_place None at is = rest.cores i q is
    by_place (Some p) at is =
        let x : Place = place_after p e fate in
        let its : x.core.node.me ≡ i = (core_keeps p.core e (answer_of p.disk fate)).0 ∙ at_its_number i w.places p at in
        let same : q ≡ x = some_same x q (sym (put_at i x w.places p its at) ∙ is) in
        subst (λ (y : Place). IsRested y.core) (sym same) (rested_after p.core e (answer_of p.disk fate) (rest.cores i p at))

-- WHAT COMES FORGED

-- what is no frame isn't forged
pub fair_ran : (w : World) (i : ℕ) (e : CoreEvent) (fate : Fate) → ((n : Node) → is_forged w n e ≡ false) → with_forged w.forged (run w (event_steps w i e fate)) ≡ run w (event_steps w i e fate)
fair_ran w i e fate fair = ap (with_forged w.forged) (event_ran w i e fate) ∙ (by_place (place_at i w.places) ∙ sym (event_ran w i e fate))
  where
    by_place : (o : Option Place) → with_forged w.forged (emptied_acts w i e fate o) ≡ emptied_acts w i e fate o
    by_place None = refl
    by_place (Some p) =
        let r : CoreReply = reply_at p e fate in
        ap (λ (b : Bool). emptied_then w i b (set_by p.core.node.me e r.answer) r (disk_after p e fate)) (sym (fair p.core.node))

-- bytes that come are counted where they are forged
pub counted_ran : (w : World) (to at : ℕ) (bytes : List ℕ) (count : ℕ) → count ≡ (if forged_at w.liars w.sent bytes (place_at to w.places) then one_more w.forged else w.forged) →
    with_forged count (run w (event_steps w to (Frame at bytes) Saved)) ≡ run w (event_steps w to (Frame at bytes) Saved)
counted_ran w to at bytes count is = ap (with_forged count) (event_ran w to (Frame at bytes) Saved) ∙ (by_place (place_at to w.places) is ∙ sym (event_ran w to (Frame at bytes) Saved))
  where
    by_place : (o : Option Place) → count ≡ (if forged_at w.liars w.sent bytes o then one_more w.forged else w.forged) → with_forged count (emptied_acts w to (Frame at bytes) Saved o) ≡ emptied_acts w to (Frame at bytes) Saved o
    by_place None counted = ap (λ (n : ℕ). with_forged n w) counted
    by_place (Some p) counted = ap (λ (n : ℕ). with_forged n (emptied_acts w to (Frame at bytes) Saved (Some p))) counted

-- bytes that were sent are not forged
fair : (last mine liar right sent : Bool) → sent ≡ true → (last && (mine && not liar && not sent && right)) ≡ false
fair last mine liar right sent h = grind arith

sent_fair : (liars : List ℕ) (sent : List Sent) (keys : Ring) (bytes : List ℕ) (s : Split) → was_sent sent bytes ≡ true → forges liars sent keys bytes s ≡ false
sent_fair liars sent keys bytes (NoFrame why) was = refl
sent_fair liars sent keys bytes (Need lack) was = refl
sent_fair liars sent keys bytes (Whole f) was = fair (nat_le (length bytes) (span f.body)) (f.to == keys.me) (is_on liars f.from) (is_sealed keys f) (was_sent sent bytes) was

found_sent : (sent : List Sent) (f : Sent) (k : ℕ) → slice_get sent k ≡ Some f → was_sent sent f.bytes ≡ true
found_sent sent f k at =
    list_any_at _ sent k f (slice_get_within sent k f at)
    (subst (λ (g : Sent). bytes_eq g.bytes f.bytes ≡ true) (sym (get_or_from_slice_get sent k f f at)) ((bytes_eq-Decides f.bytes f.bytes).1 refl))

-- so the sent frame of a place is none
pub sent_ran : (w : World) (at : ℕ) (f : Sent) (k : ℕ) → slice_get w.sent k ≡ Some f → with_forged w.forged (run w (delivery w at f)) ≡ run w (delivery w at f)
sent_ran w at f k found = fair_ran w f.to (Frame at f.bytes) Saved (λ n. sent_fair w.liars w.sent n.keys f.bytes (split_of f.bytes) (found_sent w.sent f k found))

-- what is asked of a node is no frame
pub asked_fair : (at : ℕ) (asked : Ask) (w : World) (n : Node) → is_forged w n (event_asked at asked) ≡ false
asked_fair at (ask.Issue node seq id full) w n = refl
asked_fair at (ask.Timer node) w n = refl

-- so what is asked of a node is the steps of the event that it is
pub asked_steps : (w : World) (at : ℕ) (a : Ask) (i : ℕ) (d : Deed) (fate : Fate) → i ≡ node_asked a → ((j : ℕ) → deed_event j d ≡ event_asked at a) → event_steps w i (deed_event i d) fate ≡ ask_steps w at a fate
asked_steps w at a i d fate its is = ap (λ (e : CoreEvent). event_steps w i e fate) (is i) ∙ ap (λ (j : ℕ). event_steps w j (event_asked at a) fate) its

pub asked_ran : (w : World) (at : ℕ) (a : Ask) (i : ℕ) (d : Deed) (fate : Fate) → i ≡ node_asked a → ((j : ℕ) → deed_event j d ≡ event_asked at a) →
    with_forged w.forged (run w (event_steps w i (deed_event i d) fate)) ≡ run w (ask_steps w at a fate)
asked_ran w at a i d fate its is =
    ap (λ (steps : List Step). with_forged w.forged (run w steps)) (asked_steps w at a i d fate its is) ∙ fair_ran w (node_asked a) (event_asked at a) fate (asked_fair at a w)
