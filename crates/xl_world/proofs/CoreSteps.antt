-- What each event at a core shows.
use Rattle.std.proofs.Common.{◌≡◌, ℕ, zero, suc, ◌≤◌, List, [], ◌∷◌, ◌++◌, length, drop, map, refl, sym, Option, Some, None, Result, Ok, Err, subst, Bool, true}
use Rattle.std.specs.Prelude.{All, IfSome, nat_lt, replicate}
use Rattle.std.proofs.lemmas.Bool.{cond_both}
use Rattle.std.proofs.lemmas.List.Elements.{All-append, All-cons, All-drop, All-head, All-map, All-nil, All-set, All-tail, All-weaker}
use Rattle.xl_lists.specs.declared.said.SaidLedger.{SaidLedger}
use Rattle.xl_queues.specs.Broadcasts.{queue_of}
use Rattle.xl_queues.specs.Queues.{Backlog, no_items, with_item}
use Rattle.xl_wire.specs.declared.validation.Validation.{Validation}
use Rattle.std.specs.Prelude.{option_map}
use Rattle.std.specs.Option.{option_and_then}
use Rattle.xl_base.specs.declared.ids.LedgerId.{LedgerId}
use Rattle.xl_wire.specs.declared.body.Body.{Body}
use Rattle.xl_tags.specs.Rings.{Ring}
use Rattle.xl_ledger.specs.declared.header.Header.{Header}
use Rattle.xl_ledger.specs.Chains.{header_at, place_of}
use Rattle.xl_ledger.specs.Headers.{header_id, spelling}
use Rattle.xl_queues.specs.Broadcasts.{pushed_to_all}
use Rattle.xl_rounds.specs.declared.heartbeat.Said.{Said as RoundSaid}
use Rattle.xl_rounds.specs.Rounds.{is_proposing}
use Rattle.xl_rounds.specs.declared.placed.Placed.{Placed}
use Rattle.xl_rounds.specs.declared.refusal.RoundRefusal.{RoundRefusal}
use Rattle.xl_core.specs.Building.{said_items}
use Rattle.xl_core.proofs.Timing.{timing_by, submit_either, relist_either}
use Rattle.xl_core.specs.declared.event.CoreEvent.{CoreEvent}
use Rattle.xl_core.specs.declared.event.CoreEvent.TheVariants.{Issue, Frame, Timer, Submit, Drain, Relist}
use Rattle.xl_core.specs.declared.hearing.Speech.{Speech}
use Rattle.xl_core.specs.declared.hearing.Speech.TheVariants as speech
use Rattle.xl_core.specs.declared.item.Item.{Item}
use Rattle.xl_core.specs.declared.item.Item.TheVariants.{Validation as ValidationItem, Tx, TxSet, Proposal, Header as HeaderItem}
use Rattle.xl_core.specs.declared.settings.Settings.{Settings}
use Rattle.xl_core.specs.declared.refusal.Refusal.TheVariants.{NotAfter}
use Rattle.xl_core.specs.Answers.{Done, Gave}
use Rattle.xl_core.proofs.Greeted.{given_all}
use Rattle.xl_core.specs.Core.{Core, CoreReply, greeted_frames, given_for, core_reply, core_happens, after_reply, with_queues}
use Rattle.xl_core.proofs.Frames.{hearing_either}
use Rattle.xl_core.specs.Items.{is_own, body_in, frame_for, frame_of, header_body_at}
use Rattle.xl_core.specs.Node as nodes
use Rattle.xl_core.specs.Node.{Node, Event, Reply, Save, at_moment, own_validation, issued_unless_off, refusing_reply, issuing_reply, reply_with, timer_reply, timer_outcome, validates, validating_built, proposal_answer, placed_as, taken_reply, happens, items_of, opened_node}
use Rattle.xl_core.specs.Issuing.Save.{Kept as AnsweredOk, Failed as AnsweredFailed}
use Rattle.xl_core.specs.Queues.{after_taking, at_number, frames_in, waiting_at, with_items}
use Rattle.xl_wire.specs.declared.body.Body.TheVariants as bodies
use Rattle.xl_core.specs.Sending.{sealed_bytes, has_spelling}
use Rattle.xl_world.specs.declared.place.Disk.{Disk}
use Rattle.xl_world.specs.declared.place.Fate.{Fate}
use Rattle.xl_world.specs.Sending.{Sent}
use Rattle.xl_io.specs.Keepers.{MayHold}
use Rattle.xl_world.specs.Disk.{held_by, answer_of, restored}
use Rattle.xl_world.proofs.Standing.{FrameSays, said_in}
use Rattle.xl_world.specs.World.{said_by}
use Rattle.xl_world.specs.declared.place.Place.{Place}
use Rattle.xl_world.specs.World.{IsFitEvent, sent_in, reply_at, disk_after, core_again}
use Rattle.xl_world.proofs.Standing.{ItemSays, CoreSays}
use Rattle.xl_world.proofs.Keeping.{happens_keeps}
use Rattle.xl_world.proofs.NodeSteps.{HeardSays, happens_says, happens_steps, opened_says, opened_steps, still}
use Rattle.xl_world.proofs.Seats.{IsWell, IsStep}
use Rattle.xl_world.proofs.Speaking.{sealed_said, sealed_else}
use Rattle.xl_world.proofs.Settling.{ReplySays, node_reply, seat}

-- THE NODE OF THE CORE

-- what an event at the node shows is shown at its core
lifted : (core : Core) (k k' : Disk) (r : Reply) → IsStep (seat core k) r k' → IsStep (seat core k) (node_reply (after_reply core r)) k'
lifted core k k' r s = record { me = s.me; well = s.well; rises = s.rises; above = s.above; saved = s.saved; quorum = s.quorum }

-- the node is as it was
beside : (p : Place) (r : CoreReply) → r.core.node ≡ p.core.node → r.issued ≡ None → r.report ≡ None → IsWell (seat p.core p.disk) → IsStep (seat p.core p.disk) (node_reply r) p.disk
beside p r node issued report well = still (seat p.core p.disk) (node_reply r) node issued report well

pub core_steps : (p : Place) (e : CoreEvent) (fate : Fate) → IsFitEvent e → IsWell (seat p.core p.disk) → IsStep (seat p.core p.disk) (node_reply (reply_at p e fate)) (disk_after p e fate)
core_steps p (Issue now seq id full) fate fit well =
    lifted p.core p.disk (disk_after p (Issue now seq id full) fate) (happens p.core.node (nodes.Issue now seq id full) (answer_of p.disk fate)) (happens_steps (seat p.core p.disk) (nodes.Issue now seq id full) fate tt well)
core_steps p (Frame now bytes) fate fit well =
    lifted p.core p.disk (disk_after p (Frame now bytes) fate) (happens p.core.node (nodes.Frame now bytes) (answer_of p.disk fate)) (happens_steps (seat p.core p.disk) (nodes.Frame now bytes) fate tt well)
core_steps p (Timer now) fate fit well =
    lifted p.core p.disk (disk_after p (Timer now) fate) (happens p.core.node (nodes.Timer now) (answer_of p.disk fate)) (happens_steps (seat p.core p.disk) (nodes.Timer now) fate tt well)
core_steps p (Submit now tx) fate fit well =
    lifted p.core p.disk (disk_after p (Submit now tx) fate) (happens p.core.node (nodes.Submit now tx) (answer_of p.disk fate)) (happens_steps (seat p.core p.disk) (nodes.Submit now tx) fate tt well)
core_steps p (Relist now list) fate fit well =
    lifted p.core p.disk (disk_after p (Relist now list) fate) (happens p.core.node (nodes.Relist now list) (answer_of p.disk fate)) (happens_steps (seat p.core p.disk) (nodes.Relist now list) fate fit well)
core_steps p other fate fit well = beside p (reply_at p other fate) refl refl refl well

-- a core that is opened again with a number that is not below its disk's
pub opened_core_steps : (p : Place) (now number : ℕ) (asked : Option ℕ) → IsWell (seat p.core p.disk) → (i : ℕ) × (i ≤ number) × MayHold (held_by p.disk) i →
    IsStep (seat p.core p.disk) (node_reply (core_reply (core_again p now number) Done)) (restored (record p.disk { asked = asked }) number)
opened_core_steps p now number asked well low =
    let s = opened_steps (seat p.core p.disk) now number well low in
    record { me = s.me; well = record { members = s.well.members; valid = s.well.valid; in_force = s.well.in_force }; rises = s.rises; above = s.above; saved = s.saved; quorum = s.quorum }

-- WHAT IS SAID

-- what waits after an event is what it issued, and nothing is given
pub record IsPlain (r : Reply) : Type 0 where
  pub items : r.items ≡ items_of r.issued
  pub sent : (from : ℕ) → sent_in from r.answer ≡ []

-- what waits after an event says no more than what it issued, and nothing is given
pub record IsFair (P : SaidLedger → Type 0) (me : ℕ) (r : Reply) : Type 0 where
  pub items : IfSome r.issued (λ v. P (said_by me v)) → All (ItemSays P me) r.items
  pub sent : (from : ℕ) → sent_in from r.answer ≡ []

issues_plain : (n : Node) (off : Option ℕ) (save : Save) (v : Validation) → IsPlain (issued_unless_off n off save v)
issues_plain n None AnsweredOk v = record { items = refl; sent = λ _. refl }
issues_plain n None (AnsweredFailed count) v = record { items = refl; sent = λ _. refl }
issues_plain n (Some failed) save v = record { items = refl; sent = λ _. refl }

place_sends : (from : ℕ) (r : Result Placed RoundRefusal) → sent_in from (placed_as r) ≡ []
place_sends from (Ok became) = refl
place_sends from (Err why) = refl

taking_plain : (n : Node) (from : ℕ) (what : Speech) → IsPlain (taken_reply n from what)
taking_plain n from (speech.Proposal p) = record { items = refl; sent = λ me. place_sends me (proposal_answer n from p) }
taking_plain n from other = record { items = refl; sent = λ _. refl }

issuing_plain : (n : Node) (seq : ℕ) (id : LedgerId) (full : Bool) (save : Save) → IsPlain (issuing_reply n seq id full save)
issuing_plain n seq id full save =
    cond_both (nat_lt n.kept seq) (issued_unless_off n n.failed_save save (own_validation n seq id full)) (refusing_reply n (NotAfter n.kept)) IsPlain
    (λ _. issues_plain n n.failed_save save (own_validation n seq id full)) (λ _. record { items = refl; sent = λ _. refl })

validating_plain : (n : Node) (h : Header) (moved_on : Bool) (save : Save) → IsPlain (validating_built n h moved_on save)
validating_plain n h moved_on save =
    cond_both (validates n moved_on) (issuing_reply n h.seq (header_id h) (is_proposing n.round.setting.mode) save) (reply_with n Done []) IsPlain
    (λ _. issuing_plain n h.seq (header_id h) (is_proposing n.round.setting.mode) save) (λ _. record { items = refl; sent = λ _. refl })

pub issue_plain : (n : Node) (now seq : ℕ) (id : LedgerId) (full : Bool) (save : Save) → IsPlain (happens n (nodes.Issue now seq id full) save)
issue_plain n now seq id full save = issuing_plain (at_moment now n) seq id full save

pub frame_plain : (n : Node) (now : ℕ) (bytes : List ℕ) (save : Save) → IsPlain (happens n (nodes.Frame now bytes) save)
frame_plain n now bytes save =
    let m : Node = at_moment now n in
    hearing_either IsPlain m bytes (λ _. record { items = refl; sent = λ _. refl }) (λ said _. taking_plain m said.from said.what)

plain_fair : (P : SaidLedger → Type 0) (me : ℕ) (r : Reply) → IsPlain r → IsFair P me r
plain_fair P me r plain = record { items = λ fair. subst (All (ItemSays P me)) (sym plain.items) (of r.issued fair); sent = plain.sent }
  where
    of : (o : Option Validation) → IfSome o (λ v. P (said_by me v)) → All (ItemSays P me) (items_of o)
    of None fair = All-nil (ItemSays P me)
    of (Some v) fair = All-cons (ItemSays P me) (ValidationItem v) [] fair (All-nil (ItemSays P me))

-- a position says no validation
position_fair : (P : SaidLedger → Type 0) (me : ℕ) (said : Option RoundSaid) → All (ItemSays P me) (said_items said)
position_fair P me None = All-nil (ItemSays P me)
position_fair P me (Some said) =
    let position : All (ItemSays P me) (Proposal said.proposal ∷ []) = All-cons (ItemSays P me) (Proposal said.proposal) [] tt (All-nil (ItemSays P me)) in
    cond_both said.with_set (TxSet said.proposal.set ∷ Proposal said.proposal ∷ []) (Proposal said.proposal ∷ []) (All (ItemSays P me))
    (λ _. All-cons (ItemSays P me) (TxSet said.proposal.set) (Proposal said.proposal ∷ []) tt position) (λ _. position)

timer_fair : (P : SaidLedger → Type 0) (me : ℕ) (n : Node) (save : Save) → IsFair P me (timer_reply (timer_outcome n) save)
timer_fair P me n save =
    timing_by (λ t. IsFair P me (timer_reply t save)) n (λ r beat said. record { items = λ _. position_fair P me said; sent = λ _. refl })
    (λ ledgers r said h place moved_on _.
    let v = validating_built (record n { ledgers = ledgers; round = r }) h moved_on save in
    let fair = plain_fair P me v (validating_plain (record n { ledgers = ledgers; round = r }) h moved_on save) in
    record {
      items = λ issued. All-append (ItemSays P me) (said_items said) (HeaderItem (header_id h) ∷ v.items) (position_fair P me said) (All-cons (ItemSays P me) (HeaderItem (header_id h)) v.items tt (fair.items issued));
      sent = λ _. refl;
    })

happens_fair : (P : SaidLedger → Type 0) (me : ℕ) (n : Node) (e : Event) (save : Save) → IsFair P me (happens n e save)
happens_fair P me n (nodes.Issue now seq id full) save = plain_fair P me (happens n (nodes.Issue now seq id full) save) (issue_plain n now seq id full save)
happens_fair P me n (nodes.Frame now bytes) save = plain_fair P me (happens n (nodes.Frame now bytes) save) (frame_plain n now bytes save)
happens_fair P me n (nodes.Timer now) save = timer_fair P me (at_moment now n) save
happens_fair P me n (nodes.Submit now tx) save =
    submit_either (IsFair P me) (at_moment now n) tx (λ _. record { items = λ _. All-nil (ItemSays P me); sent = λ _. refl })
    (record { items = λ _. All-cons (ItemSays P me) (Tx tx) [] tt (All-nil (ItemSays P me)); sent = λ _. refl })
happens_fair P me n (nodes.Relist now list) save =
    relist_either (IsFair P me) (at_moment now n) list (λ _. record { items = λ _. All-nil (ItemSays P me); sent = λ _. refl })
    (λ _. record { items = λ _. All-nil (ItemSays P me); sent = λ _. refl })

-- P holds of what waits
abbrev AllSay : (SaidLedger → Type 0) → ℕ → List (Backlog Item) → Type 0
AllSay P me waiting = All (λ q. All (ItemSays P me) q.items) waiting

queue_says : (P : SaidLedger → Type 0) (me : ℕ) (item : Item) (q : Backlog Item) → ItemSays P me item → All (ItemSays P me) q.items → All (ItemSays P me) (with_item 64 q item).items
queue_says P me item q fair says =
    let all : All (ItemSays P me) (q.items ++ item ∷ []) = All-append (ItemSays P me) q.items (item ∷ []) says (All-cons (ItemSays P me) item [] fair (All-nil (ItemSays P me))) in
    cond_both (nat_lt (length q.items) 64) (q.items ++ item ∷ []) (drop 1 (q.items ++ item ∷ [])) (All (ItemSays P me)) (λ _. all) (λ _. All-drop (ItemSays P me) 1 (q.items ++ item ∷ []) all)

items_say : (P : SaidLedger → Type 0) (me : ℕ) (items : List Item) (waiting : List (Backlog Item)) → All (ItemSays P me) items → AllSay P me waiting → AllSay P me (with_items waiting items)
items_say P me [] waiting fair says = says
items_say P me (item ∷ items) waiting fair says =
    items_say P me items (pushed_to_all 64 waiting item) (All-tail (ItemSays P me) item items fair)
    (All-map (λ q. All (ItemSays P me) q.items) (λ q. with_item 64 q item) waiting
    (All-weaker (λ q. All (ItemSays P me) q.items) (λ q. All (ItemSays P me) (with_item 64 q item).items) (λ q. queue_says P me item q (All-head (ItemSays P me) item items fair)) waiting says))

-- an event at the node
node_says : (P : SaidLedger → Type 0) (core : Core) (e : Event) (save : Save) → CoreSays P core → HeardSays P core.node e → IfSome (happens core.node e save).issued (λ v. P (said_by core.node.me v)) →
    ReplySays P (after_reply core (happens core.node e save))
node_says P core e save says heard fair =
    let r : Reply = happens core.node e save in
    let its = happens_fair P core.node.me core.node e save in
    let me = (happens_keeps core.node e save).0 in
    record {
      core = record {
        rows = (happens_says P core.node e save says.rows heard fair).node;
        items = subst (λ (m : ℕ). AllSay P m (with_items core.waiting r.items)) (sym me)
            (items_say P core.node.me r.items core.waiting (its.items fair) says.items);
      };
      sent = subst (All (FrameSays P)) (sym (its.sent r.node.me)) (All-nil (FrameSays P));
    }

-- DRAINING

-- what waits for one number
waiting_says : (P : SaidLedger → Type 0) (me : ℕ) (waiting : List (Backlog Item)) (number : ℕ) → AllSay P me waiting → All (ItemSays P me) (waiting_at waiting number).items
waiting_says P me waiting zero says = All-nil (ItemSays P me)
waiting_says P me waiting (suc place) says = at_place waiting place says
  where
    at_place : (qs : List (Backlog Item)) (k : ℕ) → AllSay P me qs → All (ItemSays P me) (queue_of qs k).items
    at_place [] k each = All-nil (ItemSays P me)
    at_place (q ∷ qs) zero each = All-head (λ x. All (ItemSays P me) x.items) q qs each
    at_place (q ∷ qs) (suc k) each = at_place qs k (All-tail (λ x. All (ItemSays P me) x.items) q qs each)

taken_says : (P : SaidLedger → Type 0) (me : ℕ) (waiting : List (Backlog Item)) (number : ℕ) (taken : List (Option (List ℕ))) → AllSay P me waiting → AllSay P me (at_number waiting number (after_taking taken))
taken_says P me waiting zero taken says = says
taken_says P me waiting (suc place) taken says =
    All-set (λ q. All (ItemSays P me) q.items) waiting place (after_taking taken (queue_of waiting place))
    (All-drop (ItemSays P me) (length taken) (queue_of waiting place).items (waiting_says P me waiting (suc place) says)) says

-- the frames of items say what they say
abbrev BytesSay : (SaidLedger → Type 0) → List ℕ → Type 0
BytesSay P bytes = IfSome (said_in bytes) P

-- what a body says
abbrev BodySays : (SaidLedger → Type 0) → ℕ → Body → Type 0
BodySays P me (bodies.Validation v) = P (said_by me v)
BodySays P me other = Unit {0}

item_body : (P : SaidLedger → Type 0) (n : Node) (item : Item) → ItemSays P n.me item → IfSome (body_in n item) (BodySays P n.me)
item_body P n (ValidationItem v) says = says
item_body P n (Tx tx) says = tt
item_body P n (TxSet id) says = cond_both (is_own n id) (Some (bodies.TxSet n.round.positions.own)) None (λ o. IfSome o (BodySays P n.me)) (λ _. tt) (λ _. tt)
item_body P n (Proposal p) says = tt
item_body P n (HeaderItem id) says = by (place_of n.ledgers.headers id)
  where
    by : (o : Option ℕ) → IfSome (option_map (λ place. bodies.Header (spelling (header_at n.ledgers.headers place))) o) (BodySays P n.me)
    by None = tt
    by (Some place) = tt

-- a sealed frame says what its body says
body_says : (P : SaidLedger → Type 0) (ring : Ring) (from to : ℕ) (body : Body) → has_spelling from to body ≡ true → BodySays P from body → BytesSay P (sealed_bytes ring from to body)
body_says P ring from to (bodies.Validation v) h says = subst (λ o. IfSome o P) (sym (sealed_said ring from to v h)) says
body_says P ring from to other h says = subst (λ o. IfSome o P) (sym (sealed_else ring from to other h refl)) tt

framed_says : (P : SaidLedger → Type 0) (n : Node) (to : ℕ) (o : Option Body) (rest : List (Option (List ℕ))) → IfSome o (BodySays P n.me) → All (BytesSay P) (frames_in rest) → All (BytesSay P) (frames_in (option_and_then (frame_for n to) o ∷ rest))
framed_says P n to None rest says each = each
framed_says P n to (Some body) rest says each =
    cond_both (has_spelling n.me to body) (Some (sealed_bytes n.keys n.me to body)) None (λ o. All (BytesSay P) (frames_in (o ∷ rest)))
    (λ spelled. All-cons (BytesSay P) (sealed_bytes n.keys n.me to body) (frames_in rest) (body_says P n.keys n.me to body spelled says) each)
    (λ _. each)

frames_say : (P : SaidLedger → Type 0) (n : Node) (to : ℕ) (items : List Item) → All (ItemSays P n.me) items → All (BytesSay P) (frames_in (map (frame_of n to) items))
frames_say P n to [] says = All-nil (BytesSay P)
frames_say P n to (item ∷ items) says =
    framed_says P n to (body_in n item) (map (frame_of n to) items) (item_body P n item (All-head (ItemSays P n.me) item items says))
    (frames_say P n to items (All-tail (ItemSays P n.me) item items says))

-- the frame of a header says nothing
header_says : (P : SaidLedger → Type 0) (n : Node) (to ledger : ℕ) → IfSome (frame_for n to (header_body_at n ledger)) (BytesSay P)
header_says P n to ledger =
    cond_both (has_spelling n.me to (header_body_at n ledger)) (Some (sealed_bytes n.keys n.me to (header_body_at n ledger))) None (λ o. IfSome o (BytesSay P))
    (λ spelled. body_says P n.keys n.me to (header_body_at n ledger) spelled tt) (λ _. tt)

sent_says : (P : SaidLedger → Type 0) (from to : ℕ) (frames : List (List ℕ)) → All (BytesSay P) frames → All (FrameSays P) (sent_in from (Gave to frames))
sent_says P from to frames says = All-map (FrameSays P) (λ bytes. let f : Sent = record { from = from; to = to; bytes = bytes } in f) frames says

drain_says : (P : SaidLedger → Type 0) (core : Core) (member room : ℕ) (save : Save) → CoreSays P core → ReplySays P (core_happens core (Drain member room) save)
drain_says P core member room save says =
    let n : Node = core.node in
    record {
      core = record { rows = says.rows; items = taken_says P n.me core.waiting member (drop (length (greeted_frames core member)) (given_for core member room)) says.items };
      sent = sent_says P n.me member (frames_in (given_for core member room))
          (given_all (BytesSay P) core member room (header_says P n member)
          (frames_say P n member (waiting_at core.waiting member).items (waiting_says P n.me core.waiting member says.items)));
    }

-- EVERY EVENT

-- P holds of what is heard
abbrev pub CoreHeard : (SaidLedger → Type 0) → Node → CoreEvent → Type 0
CoreHeard P n (Frame now bytes) = HeardSays P n (nodes.Frame now bytes)
CoreHeard P n other = Unit {0}

-- what holds of what stands at the core, of what came and of what is issued holds of what stands there then, and of what is given
pub core_says : (P : SaidLedger → Type 0) (core : Core) (e : CoreEvent) (save : Save) → CoreSays P core → CoreHeard P core.node e → IfSome (core_happens core e save).issued (λ v. P (said_by core.node.me v)) →
    ReplySays P (core_happens core e save)
core_says P core (Issue now seq id full) save says heard fair = node_says P core (nodes.Issue now seq id full) save says tt fair
core_says P core (Frame now bytes) save says heard fair = node_says P core (nodes.Frame now bytes) save says heard fair
core_says P core (Timer now) save says heard fair = node_says P core (nodes.Timer now) save says tt fair
core_says P core (Submit now tx) save says heard fair = node_says P core (nodes.Submit now tx) save says tt fair
core_says P core (Drain member room) save says heard fair = drain_says P core member room save says
core_says P core (Relist now list) save says heard fair = node_says P core (nodes.Relist now list) save says tt fair
core_says P core other save says heard fair = record { core = record { rows = says.rows; items = says.items }; sent = All-nil (FrameSays P) }

-- a core that is opened has nothing
pub opened_core_says : (P : SaidLedger → Type 0) (settings : Settings) (now kept : ℕ) → CoreSays P (with_queues (opened_node settings now kept))
opened_core_says P settings now kept = record { rows = opened_says P settings now kept; items = nothing_waits 64 }
  where
    nothing_waits : (n : ℕ) → AllSay P settings.me (replicate n no_items)
    nothing_waits zero = All-nil (λ q. All (ItemSays P settings.me) q.items)
    nothing_waits (suc n) = All-cons (λ q. All (ItemSays P settings.me) q.items) no_items (replicate n no_items) (All-nil (ItemSays P settings.me)) (nothing_waits n)
