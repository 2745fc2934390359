-- Every frame that a core ever gave stays covered by what its keeper may hold.
use Rattle.std.proofs.Common.{◌≡◌, ◌≢◌, ℕ, ◌≤◌, Bool, true, List, [], ◌∷◌, ◌++◌, map, refl, ap, sym, ◌∙◌, subst, arith, Option, Some, None, Ok, append_assoc}
use Rattle.std.specs.Prelude.{All, IfSome, nat_lt, option_map, ⊤}
use Rattle.std.proofs.lemmas.Bool.{cond_both, ltb-true}
use Rattle.std.proofs.lemmas.List.{append-nil}
use Rattle.std.proofs.lemmas.List.Elements.{All-append, All-cons, All-head, All-nil, All-tail, All-weaker}
use Rattle.xl_io.specs.Keepers.{Held, after_save}
use Rattle.xl_wire.specs.declared.body.Body.TheVariants as bodies
use Rattle.xl_wire.specs.declared.validation.Validation.{Validation}
use Rattle.xl_wire.specs.Heads.{split_of}
use Rattle.xl_wire.specs.Heads.Split.{Whole}
use Rattle.xl_wire.specs.Raws.{RawFrame, raw_bytes}
use Rattle.xl_wire.proofs.BodyLaws.{body_again}
use Rattle.xl_wire.proofs.RawLaws.{split_again}
use Rattle.xl_tags.specs.Rings.{Ring}
use Rattle.xl_tags.specs.Sealing.{sealed}
use Rattle.xl_wire.specs.Frames.{raw_of}
use Rattle.xl_base.specs.declared.ids.LedgerId.{LedgerId}
use Rattle.xl_ledger.specs.Headers.{header_id}
use Rattle.xl_rounds.specs.Rounds.{is_proposing}
use Rattle.std.specs.Option.{option_and_then}
use Rattle.xl_base.specs.Refusals.{unless_refused}
use Rattle.xl_wire.specs.declared.body.Body.{Body}
use Rattle.xl_wire.specs.declared.refusal.WireRefusal.{WireRefusal}
use Rattle.xl_wire.specs.Bodies.{set_bytes, body_refusal}
use Rattle.xl_wire.specs.Bodies.{body_in as wire_body}
use Rattle.xl_ledger.specs.Chains.{header_at, place_of}
use Rattle.xl_ledger.specs.Headers.{spelling}
use Rattle.xl_core.specs.Answers.{Done}
use Rattle.xl_core.proofs.Timing.{timing_by, submit_either, relist_either}
use Rattle.xl_core.specs.declared.event.CoreEvent.{CoreEvent}
use Rattle.xl_core.specs.declared.event.CoreEvent.TheVariants.{Issue, Frame, Timer, Submit, Drain, Relist}
use Rattle.xl_core.specs.declared.hearing.Spoken.{Spoken}
use Rattle.xl_core.specs.declared.item.Item.{Item}
use Rattle.xl_core.specs.declared.item.Item.TheVariants.{Validation as ValidationItem, Tx, TxSet, Proposal, Header as HeaderItem}
use Rattle.xl_core.specs.declared.refusal.Refusal.TheVariants.{NotAfter}
use Rattle.xl_core.specs.Answers.{given_in}
use Rattle.xl_core.specs.Core.{Core, core_happens, core_asks, with_queues}
use Rattle.xl_core.specs.CoreLives.{CoreHappening, core_after, held_after, given_over, validation_of, validation_split, validation_in, IsFrameCovered, SaidIsSaved}
use Rattle.xl_core.specs.Hearing.{spoken_in}
use Rattle.xl_core.specs.Items.{is_own, body_in, frame_for, frame_of, header_body_at}
use Rattle.xl_core.specs.Node as nodes
use Rattle.xl_core.specs.Node.{Node, Save, is_kept, issued_unless_off, issuing_reply, reply_with, timer_reply, timer_outcome, validates, refusing_reply, at_moment, own_validation, happens, opened_node}
use Rattle.xl_core.specs.Issuing.Save.{Kept, Failed}
use Rattle.xl_core.specs.Queues.{waiting_at, frames_in}
use Rattle.xl_core.specs.Sending.{blank_frame, sealed_bytes, has_spelling}
use Rattle.xl_core.specs.Stops.{IsCovered, IsItemCovered}
use Rattle.xl_core.proofs.Greeted.{given_all}
use Rattle.xl_core.proofs.Heard.{not_itself}
use Rattle.xl_core.proofs.Spelling.{held, sealed_raw}
use Rattle.xl_core.proofs.Stepping.{stays_itself}
use Rattle.xl_core.proofs.Stopping.{AllCovered, waiting_covered, heard_keeps, frame_covered, issue_covered, timer_covered, submit_covered, relist_covered, drain_covered, opened_covered}

-- WHAT A DRAIN GIVES

-- a sealed frame is split off whole
sealed_split : (ring : Ring) (from to : ℕ) (body : Body) → has_spelling from to body ≡ true → split_of (sealed_bytes ring from to body) ≡ Whole (sealed ring (raw_of (blank_frame from to body)))
sealed_split ring from to body h =
    let f : RawFrame = sealed ring (raw_of (blank_frame from to body)) in
    ap split_of (sym (append-nil (raw_bytes f))) ∙ split_again f [] (sealed_raw ring from to body h)

-- the frame of a validation says it
sealed_says : (ring : Ring) (from to : ℕ) (v : Validation) → has_spelling from to (bodies.Validation v) ≡ true → validation_in (sealed_bytes ring from to (bodies.Validation v)) ≡ Some v
sealed_says ring from to v h = ap validation_split (sealed_split ring from to (bodies.Validation v) h) ∙ ap validation_of (body_again (bodies.Validation v) (held from to v h).body)

-- a body that a frame may say
abbrev IsBodyCovered : ℕ → Body → Type 0
IsBodyCovered kept (bodies.Validation v) = v.seq ≤ kept
IsBodyCovered kept other = ⊤

-- a frame of another kind says no validation
no_validation : (o : Option WireRefusal) (bytes : List ℕ) → validation_of (unless_refused o (wire_body 4 bytes)) ≡ None
no_validation None bytes = refl
no_validation (Some why) bytes = refl

body_covered : (kept from to : ℕ) (ring : Ring) (body : Body) → has_spelling from to body ≡ true → IsBodyCovered kept body → IsFrameCovered kept (sealed_bytes ring from to body)
body_covered kept from to ring (bodies.Validation v) h covered = subst (λ o. IfSome o (λ u. u.seq ≤ kept)) (sym (sealed_says ring from to v h)) covered
body_covered kept from to ring (bodies.Proposal p) h covered = subst (λ s. IfSome (validation_split s) (λ u. u.seq ≤ kept)) (sym (sealed_split ring from to (bodies.Proposal p) h)) tt
body_covered kept from to ring (bodies.Header header) h covered = subst (λ s. IfSome (validation_split s) (λ u. u.seq ≤ kept)) (sym (sealed_split ring from to (bodies.Header header) h)) tt
body_covered kept from to ring (bodies.TxSet ids) h covered =
    subst (λ s. IfSome (validation_split s) (λ u. u.seq ≤ kept)) (sym (sealed_split ring from to (bodies.TxSet ids) h))
    (subst (λ o. IfSome o (λ u. u.seq ≤ kept)) (sym (no_validation (body_refusal 4 (set_bytes ids)) (set_bytes ids))) tt)
body_covered kept from to ring (bodies.Tx id) h covered = subst (λ s. IfSome (validation_split s) (λ u. u.seq ≤ kept)) (sym (sealed_split ring from to (bodies.Tx id) h)) tt

item_body : (kept : ℕ) (n : Node) (item : Item) → IsItemCovered kept item → IfSome (body_in n item) (IsBodyCovered kept)
item_body kept n (ValidationItem v) covered = covered
item_body kept n (Tx tx) covered = tt
item_body kept n (TxSet id) covered = cond_both (is_own n id) (Some (bodies.TxSet n.round.positions.own)) None (λ o. IfSome o (IsBodyCovered kept)) (λ _. tt) (λ _. tt)
item_body kept n (Proposal p) covered = tt
item_body kept n (HeaderItem id) covered = by (place_of n.ledgers.headers id)
  where
    by : (o : Option ℕ) → IfSome (option_map (λ place. bodies.Header (spelling (header_at n.ledgers.headers place))) o) (IsBodyCovered kept)
    by None = tt
    by (Some place) = tt

framed_covered : (kept : ℕ) (n : Node) (to : ℕ) (o : Option Body) (rest : List (Option (List ℕ))) → IfSome o (IsBodyCovered kept) → All (IsFrameCovered kept) (frames_in rest) →
    All (IsFrameCovered kept) (frames_in (option_and_then (frame_for n to) o ∷ rest))
framed_covered kept n to None rest covered each = each
framed_covered kept n to (Some body) rest covered each =
    cond_both (has_spelling n.me to body) (Some (sealed_bytes n.keys n.me to body)) None (λ o. All (IsFrameCovered kept) (frames_in (o ∷ rest)))
    (λ spelled. All-cons (IsFrameCovered kept) (sealed_bytes n.keys n.me to body) (frames_in rest) (body_covered kept n.me to n.keys body spelled covered) each)
    (λ _. each)

frames_covered : (kept : ℕ) (n : Node) (to : ℕ) (items : List Item) → All (IsItemCovered kept) items → All (IsFrameCovered kept) (frames_in (map (frame_of n to) items))
frames_covered kept n to [] covered = All-nil (IsFrameCovered kept)
frames_covered kept n to (item ∷ items) covered =
    framed_covered kept n to (body_in n item) (map (frame_of n to) items) (item_body kept n item (All-head (IsItemCovered kept) item items covered))
    (frames_covered kept n to items (All-tail (IsItemCovered kept) item items covered))

-- the frame of a header says none
header_covered : (kept : ℕ) (n : Node) (to ledger : ℕ) → IfSome (frame_for n to (header_body_at n ledger)) (IsFrameCovered kept)
header_covered kept n to ledger =
    cond_both (has_spelling n.me to (header_body_at n ledger)) (Some (sealed_bytes n.keys n.me to (header_body_at n ledger))) None (λ o. IfSome o (IsFrameCovered kept))
    (λ spelled. body_covered kept n.me to n.keys (header_body_at n ledger) spelled tt) (λ _. tt)

drain_gives : (kept : ℕ) (core : Core) (member room : ℕ) (save : Save) → AllCovered kept core.waiting → All (IsFrameCovered kept) (given_in (core_happens core (Drain member room) save).answer)
drain_gives kept core member room save covered =
    given_all (IsFrameCovered kept) core member room (header_covered kept core.node member)
    (frames_covered kept core.node member (waiting_at core.waiting member).items (waiting_covered kept core.waiting member covered))

-- THE KEPT NUMBER NEVER FALLS

issued_rises : (n : Node) (off : Option ℕ) (save : Save) (v : Validation) → n.kept ≤ v.seq → n.kept ≤ (issued_unless_off n off save v).node.kept
issued_rises n None Kept v le = le
issued_rises n None (Failed count) v le = omega arith
issued_rises n (Some failed) save v le = omega arith

issuing_rises : (n : Node) (seq : ℕ) (id : LedgerId) (full : Bool) (save : Save) → n.kept ≤ (issuing_reply n seq id full save).node.kept
issuing_rises n seq id full save =
    cond_both (nat_lt n.kept seq) (issued_unless_off n n.failed_save save (own_validation n seq id full)) (refusing_reply n (NotAfter n.kept)) (λ r. n.kept ≤ r.node.kept)
    (λ above. issued_rises n n.failed_save save (own_validation n seq id full) (omega (arith, ltb-true n.kept seq above)))
    (λ _. omega arith)

timer_rises : (n : Node) (save : Save) → n.kept ≤ (timer_reply (timer_outcome n) save).node.kept
timer_rises n save =
    timing_by (λ t. n.kept ≤ (timer_reply t save).node.kept) n (λ r told said. omega arith)
    (λ ledgers r said h place moved_on _.
    let m : Node = record n { ledgers = ledgers; round = r } in
    cond_both (validates m moved_on) (issuing_reply m h.seq (header_id h) (is_proposing r.setting.mode) save) (reply_with m Done []) (λ v. n.kept ≤ v.node.kept)
    (λ _. issuing_rises m h.seq (header_id h) (is_proposing r.setting.mode) save) (λ _. omega arith))

timer_gives : (kept : ℕ) (n : Node) (save : Save) → All (IsFrameCovered kept) (given_in (timer_reply (timer_outcome n) save).answer)
timer_gives kept n save =
    timing_by (λ t. All (IsFrameCovered kept) (given_in (timer_reply t save).answer)) n (λ r told said. All-nil (IsFrameCovered kept)) (λ ledgers r said h place moved_on _. All-nil (IsFrameCovered kept))

-- A LIFE

-- a core of its own keys, and every frame that it gave
pub record IsLife (held : Held) (core : Core) (given : List (List ℕ)) : Type 0 where
  pub own : core.node.keys.me ≡ core.node.me
  pub covered : IsCovered held core
  pub all : All (IsFrameCovered core.node.kept) given

-- frames that are covered stay so as the kept number rises
still_covered : (old new : ℕ) → old ≤ new → (frame : List ℕ) → IsFrameCovered old frame → IsFrameCovered new frame
still_covered old new le frame covered = most (validation_in frame) covered
  where
    most : (o : Option Validation) → IfSome o (λ v. v.seq ≤ old) → IfSome o (λ v. v.seq ≤ new)
    most None h = tt
    most (Some v) h = omega (arith, h, le)

more_given : (old new : ℕ) (given more : List (List ℕ)) → old ≤ new → All (IsFrameCovered old) given → All (IsFrameCovered new) more → All (IsFrameCovered new) (given ++ more)
more_given old new given more le was now = All-append (IsFrameCovered new) given more (All-weaker (IsFrameCovered old) (IsFrameCovered new) (still_covered old new le) given was) now

none_given : (kept : ℕ) (given : List (List ℕ)) → All (IsFrameCovered kept) given → All (IsFrameCovered kept) (given ++ [])
none_given kept given was = All-append (IsFrameCovered kept) given [] was (All-nil (IsFrameCovered kept))

step_on : (held : Held) (core : Core) (given : List (List ℕ)) (e : CoreEvent) (save : Save) → IsLife held core given →
    IsLife (after_save held (core_asks core e) (is_kept save)) (core_happens core e save).core (given ++ given_in (core_happens core e save).answer)
step_on held core given (Issue now seq id full) save life =
    let e = nodes.Issue now seq id full in
    let same = stays_itself core.node e save in
    record {
      own = ap (λ (r : Ring). r.me) same.keys ∙ life.own ∙ sym same.me;
      covered = issue_covered held core now seq id full save life.covered;
      all = more_given core.node.kept (happens core.node e save).node.kept given (given_in (core_happens core (Issue now seq id full) save).answer) (issuing_rises (at_moment now core.node) seq id full save) life.all (issue_gives (happens core.node e save).node.kept core.node now seq id full save);
    }
  where
    unless_gives : (kept : ℕ) (n : Node) (off : Option ℕ) (save : Save) (v : Validation) → All (IsFrameCovered kept) (given_in (issued_unless_off n off save v).answer)
    unless_gives kept n None Kept v = All-nil (IsFrameCovered kept)
    unless_gives kept n None (Failed count) v = All-nil (IsFrameCovered kept)
    unless_gives kept n (Some failed) save v = All-nil (IsFrameCovered kept)

    issue_gives : (kept : ℕ) (n : Node) (now seq : ℕ) (id : _) (full : Bool) (save : Save) → All (IsFrameCovered kept) (given_in (happens n (nodes.Issue now seq id full) save).answer)
    issue_gives kept n now seq id full save =
        let m : Node = at_moment now n in
        cond_both (nat_lt m.kept seq) (issued_unless_off m m.failed_save save (own_validation m seq id full)) (refusing_reply m (NotAfter m.kept)) (λ r. All (IsFrameCovered kept) (given_in r.answer))
        (λ _. unless_gives kept m m.failed_save save (own_validation m seq id full)) (λ _. All-nil (IsFrameCovered kept))
step_on held core given (Frame now bytes) save life =
    let e = nodes.Frame now bytes in
    let same = stays_itself core.node e save in
    let others : (said : Spoken) → spoken_in core.node.keys core.node.list.members bytes ≡ Ok said → said.from ≢ core.node.me =
    λ said is. subst (λ (k : ℕ). said.from ≢ k) life.own (not_itself core.node.keys core.node.list.members bytes said is) in
    let keeps = heard_keeps core.node now bytes in
    record {
      own = ap (λ (r : Ring). r.me) same.keys ∙ life.own ∙ sym same.me;
      covered = frame_covered held core now bytes others life.covered;
      all = more_given core.node.kept (happens core.node e save).node.kept given (given_in (core_happens core (Frame now bytes) save).answer) (omega (arith, keeps.kept)) life.all
          (subst (All (IsFrameCovered (happens core.node e save).node.kept)) (sym keeps.given) (All-nil (IsFrameCovered (happens core.node e save).node.kept)));
    }
step_on held core given (Timer now) save life =
    let e = nodes.Timer now in
    let same = stays_itself core.node e save in
    record {
      own = ap (λ (r : Ring). r.me) same.keys ∙ life.own ∙ sym same.me;
      covered = timer_covered held core now save life.covered;
      all = more_given core.node.kept (happens core.node e save).node.kept given (given_in (core_happens core (Timer now) save).answer) (timer_rises (at_moment now core.node) save) life.all
          (timer_gives (happens core.node e save).node.kept (at_moment now core.node) save);
    }
step_on held core given (Submit now tx) save life =
    let e = nodes.Submit now tx in
    let same = stays_itself core.node e save in
    record {
      own = ap (λ (r : Ring). r.me) same.keys ∙ life.own ∙ sym same.me;
      covered = submit_covered held core now tx save life.covered;
      all = submit_either (λ r. All (IsFrameCovered r.node.kept) (given ++ given_in r.answer)) (at_moment now core.node) tx (λ _. none_given core.node.kept given life.all) (none_given core.node.kept given life.all);
    }
step_on held core given (Drain member room) save life = record {
  own = life.own;
  covered = drain_covered held core member room life.covered;
  all = more_given core.node.kept core.node.kept given (given_in (core_happens core (Drain member room) save).answer) (omega arith) life.all (drain_gives core.node.kept core member room save life.covered.waiting);
}
step_on held core given (Relist now list) save life =
    let same = stays_itself core.node (nodes.Relist now list) save in
    record {
      own = ap (λ (r : Ring). r.me) same.keys ∙ life.own ∙ sym same.me;
      covered = relist_covered held core now list save life.covered;
      all = relist_either (λ r. All (IsFrameCovered r.node.kept) (given ++ given_in r.answer)) (at_moment now core.node) list (λ _. none_given core.node.kept given life.all) (λ _. none_given core.node.kept given life.all);
    }
step_on held core given other save life = record {
  own = life.own;
  covered = record { saved = life.covered.saved; own = life.covered.own; waiting = life.covered.waiting };
  all = none_given core.node.kept given life.all;
}

lives_on : (held : Held) (core : Core) (given : List (List ℕ)) (life : List CoreHappening) → IsLife held core given → IsLife (held_after held core life) (core_after core life) (given ++ given_over core life)
lives_on held core given [] is = record { own = is.own; covered = is.covered; all = none_given core.node.kept given is.all }
lives_on held core given (h ∷ hs) is =
    let next : Core = (core_happens core h.event h.save).core in
    let more : List (List ℕ) = given_in (core_happens core h.event h.save).answer in
    let after : Held = after_save held (core_asks core h.event) (is_kept h.save) in
    subst (IsLife (held_after after next hs) (core_after next hs)) (append_assoc given more (given_over next hs))
    (lives_on after next (given ++ more) hs (step_on held core given h.event h.save is))

pub law_of_saves : SaidIsSaved
law_of_saves settings now kept held life n keyed below may =
    let core : Core = with_queues (opened_node settings now kept) in
    let is = lives_on held core [] life (record { own = keyed.own; covered = opened_covered held settings now kept below; all = All-nil (IsFrameCovered kept) }) in
    let after = core_after core life in
    All-weaker (IsFrameCovered after.node.kept) (IsFrameCovered n) (still_covered after.node.kept n (is.covered.saved n may)) (given_over core life) is.all
