-- What waits for a number that wasn't greeted is sent item by item as its drains give it.
use Rattle.std.proofs.Common.{◌≡◌, ℕ, zero, suc, ◌+◌, ◌<◌, ◌≤◌, Bool, true, false, List, [], ◌∷◌, ◌++◌, length, set, drop, map, refl, arith, ap, sym, ◌∙◌, subst, inl, inr, Option, Some, None, append-nil}
use Rattle.std.specs.Prelude.{◌==◌, if◌then◌else◌, is_some, option_map, slice_get}
use Rattle.std.specs.Option.{option_and_then}
use Rattle.std.proofs.lemmas.Bool.{cases_eq, cond-true}
use Rattle.std.proofs.lemmas.Bool.Decides.{nat_tests}
use Rattle.std.proofs.lemmas.List.{map-append, nil_from_length, set-get_or, take-append-drop, take_all}
use Rattle.std.proofs.lemmas.List.Elements.{filter_map-append}
use Rattle.xl_base.specs.Counts.{one_more}
use Rattle.xl_queues.specs.Broadcasts.{queue_of}
use Rattle.xl_queues.specs.Queues.{Backlog, passed_over, without_first}
use Rattle.xl_wire.specs.declared.body.Body.{Body}
use Rattle.xl_wire.specs.Lengths.{longest_frame}
use Rattle.xl_tags.specs.Rings.{Ring, schedule_ring}
use Rattle.xl_core.specs.declared.the_core.greeting.Greeting.{Greeting}
use Rattle.xl_core.specs.declared.item.Item.{Item}
use Rattle.xl_core.specs.Answers.{given_in}
use Rattle.xl_core.specs.Core.{Core, all_frames, after_drain, given_for, greeted_frames}
use Rattle.xl_core.specs.Greetings.{further, further_at, greeting_at, greeting_frames}
use Rattle.xl_core.specs.Items.{body_in, frame_of, frame_for, frames_for}
use Rattle.xl_core.specs.Queues.{after_taking, at_number, count_fitting, frames_in, stream_of, that_fit, waiting_at}
use Rattle.xl_core.proofs.Draining.{Frames, length_changed, none_left, taking_none}
use Rattle.xl_core.specs.Sending.{has_spelling, sealed_bytes}
use Rattle.xl_world.proofs.Emptied.{all_fit, none_fit}
use Rattle.xl_world.proofs.Fronts.{first_sent, left, taken_again, with_taken}
use Rattle.xl_world.specs.Emptying.{after_events, drained_once, drains, drains_for, given_by}
use Rattle.xl_world.specs.Indexes.{Traffic, with_frames}
use Rattle.xl_world.specs.Itemwise.{Sends, SendsOne}
use Rattle.xl_world.specs.Seen.{sent_from}
use Rattle.xl_world.specs.Ends.{IsLonger}
use Rattle.xl_world.specs.Sending.{Sent, said_to}
use Rattle.xl_world.proofs.Drains.{drains_end, drains_more, with_none, with_then}
use Rattle.xl_world.proofs.Growing.{longer_same}
use Rattle.xl_world.proofs.Shortening.{fewer_left}

-- the frames of what waits for a number
abbrev pub waits : Core → ℕ → Frames
waits core to = frames_for core.node core.waiting to

-- a core of which all of them were taken
abbrev pub emptied_for : Core → ℕ → Core
emptied_for core to = with_taken core to (waits core to)

-- they are sent
abbrev pub sends : Core → ℕ → List Sent
sends core to = map (sent_from core.node.me to) (frames_in (waits core to))

-- a number of a queue, that wasn't greeted
pub record IsPlain (core : Core) (to : ℕ) : Type 0 where
  pub least : 1 ≤ to
  pub most : to ≤ length core.waiting
  pub none : greeting_at core.greetings to ≡ None

taken_plain : (core : Core) (to : ℕ) (fs : Frames) → IsPlain core to → IsPlain (with_taken core to fs) to
taken_plain core to fs plain = record {
  least = plain.least;
  most = omega (arith, plain.most, length_changed core.waiting to (after_taking fs));
  none = plain.none;
}

-- A FRONT IS TAKEN

-- what is left then leaves the same in the end
leaves_same : (core : Core) (to : ℕ) (xs ys : Frames) → IsPlain core to → waits core to ≡ xs ++ ys → emptied_for (with_taken core to xs) to ≡ emptied_for core to
leaves_same core to xs ys plain is =
    ap (λ (fs : Frames). with_taken (with_taken core to xs) to fs) (left core to xs ys plain.least plain.most is)
    ∙ taken_again core to xs ys plain.least plain.most
    ∙ ap (λ (fs : Frames). with_taken core to fs) (sym is)

-- and gives the rest
gives_rest : (core : Core) (to : ℕ) (xs ys : Frames) → IsPlain core to → waits core to ≡ xs ++ ys → map (sent_from core.node.me to) (frames_in xs) ++ sends (with_taken core to xs) to ≡ sends core to
gives_rest core to xs ys plain is =
    let send : List ℕ → Sent = sent_from core.node.me to in
    ap (λ (fs : Frames). map send (frames_in xs) ++ map send (frames_in fs)) (left core to xs ys plain.least plain.most is)
    ∙ sym (map-append send (frames_in xs) (frames_in ys))
    ∙ ap (map send) (sym (filter_map-append (λ (o : Option (List ℕ)). o) xs ys) ∙ ap frames_in (sym is))

-- ONE DRAIN

none_greeted : (core : Core) (to : ℕ) → IsPlain core to → greeted_frames core to ≡ []
none_greeted core to plain = ap (λ (o : Option Greeting). greeting_frames core.node o to) plain.none

all_wait : (core : Core) (to : ℕ) → IsPlain core to → all_frames core to ≡ waits core to
all_wait core to plain = ap (λ (fs : Frames). fs ++ waits core to) (none_greeted core to plain)

greetings_stay : (gs : List (Option Greeting)) (to n : ℕ) → greeting_at gs to ≡ None → further_at gs to n ≡ gs
greetings_stay gs zero n none = refl
greetings_stay gs (suc place) n none =
    ap (λ (o : Option Greeting). set gs place (option_map (further n) o)) none ∙ (ap (set gs place) (sym none) ∙ set-get_or gs place None)

drained_plain : (core : Core) (to room : ℕ) → IsPlain core to → after_drain core to room ≡ with_taken core to (that_fit (waits core to) room)
drained_plain core to room plain =
    let gs : Frames = greeted_frames core to in
    ap (λ (g : List (Option Greeting)). let c : Core = record core { greetings = g; waiting = at_number core.waiting to (after_taking (drop (length gs) (given_for core to room))) } in c)
    (greetings_stay core.greetings to (count_fitting gs room) plain.none)
    ∙ ap (λ (fs : Frames). with_taken core to (drop (length fs) (that_fit (fs ++ waits core to) room))) (none_greeted core to plain)

-- it gives a front of them
gives_front : (core : Core) (to : ℕ) → IsPlain core to → given_in (drained_once core to).answer ≡ frames_in (that_fit (waits core to) longest_frame)
gives_front core to plain = ap (λ (fs : Frames). frames_in (that_fit fs longest_frame)) (all_wait core to plain)

-- one that gives nothing takes all
takes_all : (core : Core) (to : ℕ) → IsPlain core to → given_in (drained_once core to).answer ≡ [] → that_fit (waits core to) longest_frame ≡ waits core to
takes_all core to plain none =
    let fs : Frames = waits core to in
    let nothing : frames_in fs ≡ [] =
    ap frames_in (sym (all_wait core to plain)) ∙ none_left (all_frames core to) longest_frame (all_fit core to) (ap (λ (xs : List (List ℕ)). length (stream_of xs)) none) in
    take_all (count_fitting fs longest_frame) fs (omega (arith, none_fit fs longest_frame nothing))

-- ALL DRAINS

front_and_rest : (fs : Frames) (room : ℕ) → fs ≡ that_fit fs room ++ drop (count_fitting fs room) fs
front_and_rest fs room = sym (take-append-drop (count_fitting fs room) fs)

some_fewer : (core : Core) (to more : ℕ) → IsPlain core to → (length (given_in (drained_once core to).answer) ≡ 0 → ⊥) → length (waits core to) ≤ suc more →
    length (waits (with_taken core to (that_fit (waits core to) longest_frame)) to) ≤ more
some_fewer core to more plain some few =
    let fs : Frames = waits core to in
    let after : Core = with_taken core to (that_fit fs longest_frame) in
    omega (
      arith,
      few,
      fewer_left core to some,
      ap (λ (xs : Frames). length xs) (all_wait core to plain),
      ap (λ (c : Core). length (all_frames c to)) (drained_plain core to longest_frame plain),
      ap (λ (xs : Frames). length xs) (all_wait after to (taken_plain core to (that_fit fs longest_frame) plain)),
    )

pub drains_leave : (core : Core) (to more : ℕ) → IsPlain core to → length (waits core to) ≤ more → after_events core (drains core to more) ≡ emptied_for core to
drains_leave core to zero plain few =
    drained_plain core to longest_frame plain
    ∙ ap (λ (fs : Frames). with_taken core to fs) (take_all (count_fitting (waits core to) longest_frame) (waits core to) (omega (arith, few)))
drains_leave core to (suc more) plain few = elim (cases_eq (length (given_in (drained_once core to).answer)) 0) [
  | inl none ↦
      let nothing : given_in (drained_once core to).answer ≡ [] = nil_from_length (given_in (drained_once core to).answer) none in
      ap (after_events core) (drains_end core to (suc more) nothing)
      ∙ (drained_plain core to longest_frame plain ∙ ap (λ (fs : Frames). with_taken core to fs) (takes_all core to plain nothing))
  | inr some ↦
      let fs : Frames = that_fit (waits core to) longest_frame in
      ap (after_events core) (drains_more core to more some)
      ∙ (ap (λ (c : Core). after_events c (drains c to more)) (drained_plain core to longest_frame plain)
      ∙ (drains_leave (with_taken core to fs) to more (taken_plain core to fs plain) (some_fewer core to more plain some few)
      ∙ leaves_same core to fs (drop (count_fitting (waits core to) longest_frame) (waits core to)) plain (front_and_rest (waits core to) longest_frame)))
]

pub drains_give : (core : Core) (to more : ℕ) → IsPlain core to → length (waits core to) ≤ more → given_by core (drains core to more) ≡ sends core to
drains_give core to zero plain few =
    let send : List ℕ → Sent = sent_from core.node.me to in
    append-nil (map send (given_in (drained_once core to).answer))
    ∙ (ap (map send) (gives_front core to plain)
    ∙ ap (λ (fs : Frames). map send (frames_in fs)) (take_all (count_fitting (waits core to) longest_frame) (waits core to) (omega (arith, few))))
drains_give core to (suc more) plain few = elim (cases_eq (length (given_in (drained_once core to).answer)) 0) [
  | inl none ↦
      let send : List ℕ → Sent = sent_from core.node.me to in
      let nothing : given_in (drained_once core to).answer ≡ [] = nil_from_length (given_in (drained_once core to).answer) none in
      ap (given_by core) (drains_end core to (suc more) nothing)
      ∙ (append-nil (map send (given_in (drained_once core to).answer))
      ∙ (ap (map send) (gives_front core to plain) ∙ ap (λ (fs : Frames). map send (frames_in fs)) (takes_all core to plain nothing)))
  | inr some ↦
      let send : List ℕ → Sent = sent_from core.node.me to in
      let fs : Frames = that_fit (waits core to) longest_frame in
      ap (given_by core) (drains_more core to more some)
      ∙ (ap (λ (c : Core). map send (given_in (drained_once core to).answer) ++ given_by c (drains c to more)) (drained_plain core to longest_frame plain)
      ∙ (ap (λ (xs : List Sent). map send (given_in (drained_once core to).answer) ++ xs) (drains_give (with_taken core to fs) to more (taken_plain core to fs plain) (some_fewer core to more plain some few))
      ∙ (ap (λ (xs : List (List ℕ)). map send xs ++ sends (with_taken core to fs) to) (gives_front core to plain)
      ∙ gives_rest core to fs (drop (count_fitting (waits core to) longest_frame) (waits core to)) plain (front_and_rest (waits core to) longest_frame))))
]

-- ITEM BY ITEM

-- what is left to send leaves and gives what all of it does
pub record IsSending (before : Core) (to : ℕ) (sent : Traffic) (core : Core) (now : Traffic) : Type 0 where
  pub plain : IsPlain core to
  pub node : core.node ≡ before.node
  pub leaves : emptied_for core to ≡ emptied_for before to
  pub gives : with_frames now (sends core to) ≡ with_frames sent (sends before to)

pub sending_all : (core : Core) (to : ℕ) (now : Traffic) → IsPlain core to → IsSending core to now core now
sending_all core to now plain = record { plain = plain; node = refl; leaves = refl; gives = refl }

pub sending_more : (before core after : Core) (to : ℕ) (sent now later : Traffic) → IsSending before to sent core now → SendsOne core to now after later → IsSending before to sent after later
sending_more before core after to sent now later so one =
    let fs : Frames = one.first ∷ [] in
    subst (λ (c : Core). IsSending before to sent c later) (sym one.taken)
    (record {
      plain = taken_plain core to fs so.plain;
      node = so.node;
      leaves = leaves_same core to fs one.rest so.plain one.is ∙ so.leaves;
      gives = ap (λ (t : Traffic). with_frames t (sends (with_taken core to fs) to)) one.sent
          ∙ (with_then now (map (sent_from core.node.me to) (frames_in fs)) (sends (with_taken core to fs) to)
          ∙ (ap (with_frames now) (gives_rest core to fs one.rest so.plain one.is) ∙ so.gives));
    })

-- fewer items are left
pub sending_fewer : (core after : Core) (to : ℕ) (now later : Traffic) → IsPlain core to → SendsOne core to now after later → length (waits after to) < length (waits core to)
sending_fewer core after to now later plain one =
    omega (
      arith,
      ap (λ (c : Core). length (waits c to)) one.taken,
      ap (λ (fs : Frames). length fs) (left core to (one.first ∷ []) one.rest plain.least plain.most one.is),
      ap (λ (fs : Frames). length fs) one.is,
    )

-- none is left
pub sending_none : (before core : Core) (to : ℕ) (sent now : Traffic) → IsPlain before to → IsSending before to sent core now → waits core to ≡ [] →
    (core ≡ after_events before (drains_for before to)) × (now ≡ with_frames sent (given_by before (drains_for before to)))
sending_none before core to sent now plain so none =
    let few : length (waits before to) ≤ length (all_frames before to) = omega (arith, ap (λ (fs : Frames). length fs) (all_wait before to plain)) in (
      sym (ap (λ (fs : Frames). with_taken core to fs) none ∙ stays)
          ∙ (so.leaves ∙ sym (drains_leave before to (length (all_frames before to)) plain few)),
      sym (ap (λ (fs : Frames). with_frames now (map (sent_from core.node.me to) (frames_in fs))) none ∙ with_none now)
          ∙ (so.gives ∙ ap (with_frames sent) (sym (drains_give before to (length (all_frames before to)) plain few))),
    )
  where
    stays : with_taken core to [] ≡ core
    stays = ap (λ (ws : List (Backlog Item)). let c : Core = record core { waiting = ws } in c) (taking_none core.waiting to)

-- THE OLDEST ITEM

-- nothing waits
pub none_first : (core : Core) (to : ℕ) → slice_get (waiting_at core.waiting to).items 0 ≡ None → waits core to ≡ []
none_first core to none = by (waiting_at core.waiting to).items none
  where
    by : (items : List Item) → slice_get items 0 ≡ None → map (frame_of core.node to) items ≡ []
    by [] e = refl
    by (item ∷ items) e = cc

-- this one waits first
pub is_first : (core : Core) (to : ℕ) (item : Item) → slice_get (waiting_at core.waiting to).items 0 ≡ Some item → waits core to ≡ frame_of core.node to item ∷ map (frame_of core.node to) (drop 1 (waiting_at core.waiting to).items)
is_first core to item first = by (waiting_at core.waiting to).items first
  where
    same_item : (x : Item) → Some x ≡ Some item → x ≡ item
    same_item x e = cc

    by : (items : List Item) → slice_get items 0 ≡ Some item → map (frame_of core.node to) items ≡ frame_of core.node to item ∷ map (frame_of core.node to) (drop 1 items)
    by [] e = cc
    by (x ∷ items) e = ap (λ (y : Item). frame_of core.node to y ∷ map (frame_of core.node to) items) (same_item x e)

-- it is passed over
pub first_passed : (waiting : List (Backlog Item)) (to : ℕ) (item : Item) → slice_get (waiting_at waiting to).items 0 ≡ Some item → at_number waiting to passed_over ≡ at_number waiting to (after_taking (None ∷ []))
first_passed waiting zero item first = refl
first_passed waiting (suc place) item first =
    ap (set waiting place) (by (queue_of waiting place).items (queue_of waiting place).lost first)
  where
    by : (items : List Item) (lost : ℕ) → slice_get items 0 ≡ Some item → (let q : Backlog Item = record { items = items; lost = lost } in passed_over q ≡ after_taking (None ∷ []) q)
    by [] lost e = cc
    by (x ∷ xs) lost e =
        let some : (length (x ∷ xs) == 0) ≡ false = grind (arith, nat_tests) in
        ap (λ (b : Bool). (let q : Backlog Item = record { items = xs; lost = if b then lost else one_more lost } in q)) some

-- its frame was sent
pub first_is_sent : (core after : Core) (to from : ℕ) (item : Item) (body : Body) (now later : Traffic) → from ≡ core.node.me → core.node.keys ≡ schedule_ring core.node.me → slice_get (waiting_at core.waiting to).items 0 ≡ Some item →
    Some body ≡ body_in core.node item → has_spelling from to body ≡ true → after ≡ record core { waiting = at_number core.waiting to without_first } → later ≡ with_frames now (said_to from to body ∷ []) → SendsOne core to now after later
first_is_sent core after to from item body now later mine keys first says spelled taken sent =
    let me : ℕ = core.node.me in
    let frame : List ℕ = sealed_bytes (schedule_ring me) me to body in
    let its : frame_of core.node to item ≡ Some frame =
    ap (λ (o : Option Body). option_and_then (frame_for core.node to) o) (sym says)
    ∙ (cond-true (has_spelling me to body) (Some (sealed_bytes core.node.keys me to body)) None (ap (λ (m : ℕ). has_spelling m to body) (sym mine) ∙ spelled)
    ∙ ap (λ (ring : Ring). Some (sealed_bytes ring me to body)) keys) in
    record {
      first = Some frame;
      rest = map (frame_of core.node to) (drop 1 (waiting_at core.waiting to).items);
      is = is_first core to item first ∙ ap (λ (o : Option (List ℕ)). o ∷ map (frame_of core.node to) (drop 1 (waiting_at core.waiting to).items)) its;
      taken = taken ∙ first_sent core to frame;
      sent = sent ∙ ap (λ (m : ℕ). with_frames now (said_to m to body ∷ [])) mine;
    }

-- it has no frame
pub first_is_passed : (core after : Core) (to : ℕ) (item : Item) (now later : Traffic) → slice_get (waiting_at core.waiting to).items 0 ≡ Some item → None ≡ body_in core.node item →
    after ≡ record core { waiting = at_number core.waiting to passed_over } → later ≡ now → SendsOne core to now after later
first_is_passed core after to item now later first says passed same =
    let its : frame_of core.node to item ≡ None = ap (λ (o : Option Body). option_and_then (frame_for core.node to) o) (sym says) in
    record {
      first = None;
      rest = map (frame_of core.node to) (drop 1 (waiting_at core.waiting to).items);
      is = is_first core to item first ∙ ap (λ (o : Option (List ℕ)). o ∷ map (frame_of core.node to) (drop 1 (waiting_at core.waiting to).items)) its;
      taken = passed ∙ ap (λ (ws : List (Backlog Item)). let c : Core = record core { waiting = ws } in c) (first_passed core.waiting to item first);
      sent = same ∙ sym (with_none now);
    }

-- ONE STEP

pub never : true ≡ false → ⊥
never e = cc

pub step_sending : (more : Bool) (before core after : Core) (to : ℕ) (sent now later : Traffic) → IsSending before to sent core now → Sends more core to now after later →
    IsSending before to sent after later × (more ≡ false → waits after to ≡ [])
step_sending true before core after to sent now later so one = (sending_more before core after to sent now later so one, λ e. absurd (never e))
step_sending false before core after to sent now later so none = (
  subst (λ (c : Core). IsSending before to sent c later) (sym none.1) (subst (IsSending before to sent core) (sym none.2) so),
  λ _. ap (λ (c : Core). waits c to) none.1 ∙ none.0,
)

pub step_smaller : (more : Bool) (core after : Core) (to : ℕ) (now later : Traffic) → IsPlain core to → Sends more core to now after later →
    length (waits after to) + (if more then 1 else 0) < length (waits core to) + 1
step_smaller true core after to now later plain one = omega (arith, sending_fewer core after to now later plain one)
step_smaller false core after to now later plain none = omega (arith, ap (λ (c : Core). length (waits c to)) none.1)

pub step_longer : (more : Bool) (core after : Core) (to : ℕ) (now later : Traffic) → Sends more core to now after later → IsLonger now.frames later.frames
step_longer true core after to now later one = (map (sent_from core.node.me to) (frames_in (one.first ∷ [])), ap (λ (t : Traffic). t.frames) one.sent)
step_longer false core after to now later none = longer_same now.frames later.frames (ap (λ (t : Traffic). t.frames) none.2)

pub not_greeted : (o : Option Greeting) → is_some o ≡ false → o ≡ None
not_greeted None e = refl
not_greeted (Some g) e = cc
