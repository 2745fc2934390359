-- Behind its drains nothing is left for a number, so that one more drain for it gives nothing.
use Rattle.std.proofs.Common.{◌≡◌, ◌≢◌, ℕ, zero, suc, ◌<◌, ◌≤◌, Bool, true, false, List, [], ◌∷◌, ◌++◌, length, drop, map, refl, arith, ap, sym, ◌∙◌, subst, inl, inr, Option, Some, None}
use Rattle.std.specs.Prelude.{◌==◌, All, IfSome, not, option_map}
use Rattle.std.proofs.lemmas.Bool.{cases_Bool, cases_eq, cond-true, cond-false}
use Rattle.std.proofs.lemmas.List.{get_or-set_other, length-append, length-drop, length-take, nil_from_length}
use Rattle.std.proofs.lemmas.List.Elements.{All-cons, All-head, All-nil, All-tail, All-weaker}
use Rattle.xl_queues.specs.Broadcasts.{queue_of}
use Rattle.xl_queues.specs.Queues.{Backlog, no_items}
use Rattle.xl_wire.specs.Lengths.{longest_frame}
use Rattle.xl_core.specs.declared.event.CoreEvent.{CoreEvent}
use Rattle.xl_core.specs.declared.the_core.greeting.Greeting.{Greeting}
use Rattle.xl_core.specs.declared.item.Item.{Item}
use Rattle.xl_core.specs.Answers.{given_in}
use Rattle.xl_core.specs.Core.{Core, all_frames, core_happens, after_drain, given_for, greeted_frames}
use Rattle.xl_core.specs.Greetings.{further, further_at, greeting_at, greeting_frames}
use Rattle.xl_core.specs.Items.{frame_of, frames_for}
use Rattle.xl_core.specs.Node.{Node}
use Rattle.xl_core.specs.Issuing.Save.{Kept as AnsweredOk}
use Rattle.xl_core.specs.Queues.{after_taking, at_number, count_fitting, frames_in, stream_of, that_fit, waiting_at}
use Rattle.xl_core.proofs.Draining.{none_left}
use Rattle.xl_core.proofs.Spelling.{framed_fits}
use Rattle.xl_world.specs.Emptying.{after_events, drained_once, drains_of, drains, drains_for, drains_in_turn, others}
use Rattle.xl_world.specs.Laws.{DrainsEmpty, LastGivesNothing}
use Rattle.xl_world.proofs.Drains.{after_then, all_are, drains_end, drains_more}
use Rattle.xl_world.proofs.Emptying.{AreDrains, drain_by, node_still, turns_are}
use Rattle.xl_world.proofs.Shortening.{fewer_left, left_after}

abbrev Frames : Type 0
Frames = List (Option (List ℕ))

-- IF NONE OF THEM IS A FRAME

-- all fit, whatever the room
pub none_fit : (fs : Frames) (room : ℕ) → frames_in fs ≡ [] → count_fitting fs room ≡ length fs
none_fit [] room none = refl
none_fit (None ∷ fs) room none = ap (λ (n : ℕ). suc n) (none_fit fs room none)
none_fit (Some f ∷ fs) room none = cc

-- and the first ones are none
none_first : (gs ws : Frames) → frames_in (gs ++ ws) ≡ [] → frames_in gs ≡ []
none_first [] ws none = refl
none_first (None ∷ gs) ws none = none_first gs ws none
none_first (Some f ∷ gs) ws none = cc

-- ONE DRAIN

-- each frame fits into the room
abbrev pub Fits : List ℕ → Type 0
Fits f = (0 < length f) × (length f ≤ longest_frame)

pub all_fit : (core : Core) (m : ℕ) → All (λ o. IfSome o Fits) (all_frames core m)
all_fit core m = all_are Fits core m (λ body. framed_fits core.node m longest_frame (Some body) (omega arith))

-- that gives nothing leaves nothing
drained_empty : (core : Core) (m : ℕ) → given_in (drained_once core m).answer ≡ [] → all_frames (drained_once core m).core m ≡ []
drained_empty core m none =
    let gs : Frames = greeted_frames core m in
    let ws : Frames = frames_for core.node core.waiting m in
    let fs : Frames = all_frames core m in
    let nothing : frames_in fs ≡ [] = none_left fs longest_frame (all_fit core m) (ap (λ (xs : List (List ℕ)). length (stream_of xs)) none) in
    let given : Frames = given_for core m longest_frame in
    nil_from_length (all_frames (after_drain core m longest_frame) m) (omega (
      arith,
      left_after core m longest_frame,
      none_fit gs longest_frame (none_first gs ws nothing),
      none_fit fs longest_frame nothing,
      length-append gs ws,
      length-drop (length gs) given,
      length-take (count_fitting fs longest_frame) fs,
    ))

-- leaves what is left for another number
greeting_other : (gs : List (Option Greeting)) (k m count : ℕ) → m ≢ k → greeting_at (further_at gs k count) m ≡ greeting_at gs m
greeting_other gs k zero count other = refl
greeting_other gs zero (suc p) count other = refl
greeting_other gs (suc j) (suc p) count other =
    get_or-set_other gs j p (option_map (further count) (greeting_at gs (suc j))) None (λ same. other (ap (λ (n : ℕ). suc n) same))

waiting_other : (waiting : List (Backlog Item)) (k m : ℕ) (change : Backlog Item → Backlog Item) → m ≢ k → waiting_at (at_number waiting k change) m ≡ waiting_at waiting m
waiting_other waiting k zero change other = refl
waiting_other waiting zero (suc p) change other = refl
waiting_other waiting (suc j) (suc p) change other =
    get_or-set_other waiting j p (change (queue_of waiting j)) no_items (λ same. other (ap (λ (n : ℕ). suc n) same))

other_left : (core : Core) (k m room : ℕ) → m ≢ k → all_frames (after_drain core k room) m ≡ all_frames core m
other_left core k m room other =
    let after : Core = after_drain core k room in
    ap (λ (o : Option Greeting). greeting_frames core.node o m ++ frames_for core.node after.waiting m) (greeting_other core.greetings k m (count_fitting (greeted_frames core k) room) other)
    ∙ ap (λ (q : Backlog Item). greeted_frames core m ++ map (frame_of core.node m) q.items)
    (waiting_other core.waiting k m (after_taking (drop (length (greeted_frames core k)) (given_for core k room))) other)

-- leaves nothing where nothing was left
still_empty : (core : Core) (k m room : ℕ) → all_frames core m ≡ [] → all_frames (after_drain core k room) m ≡ []
still_empty core k m room none = elim (cases_eq m k) [
  | inl same ↦
      let few : length (all_frames core m) ≡ 0 = ap (λ (fs : Frames). length fs) none in
      subst (λ (j : ℕ). all_frames (after_drain core j room) m ≡ []) same
      (nil_from_length (all_frames (after_drain core m room) m)
      (omega (arith, left_after core m room, few, length-append (greeted_frames core m) (frames_for core.node core.waiting m))))
  | inr other ↦ other_left core k m room other ∙ none
]

-- ALL DRAINS

drains_empty : (core : Core) (m more : ℕ) → length (all_frames core m) ≤ more → all_frames (after_events core (drains core m more)) m ≡ []
drains_empty core m zero few = still_empty core m m longest_frame (nil_from_length (all_frames core m) (omega (arith, few)))
drains_empty core m (suc more) few = elim (cases_eq (length (given_in (drained_once core m).answer)) 0) [
  | inl none ↦
      let nothing : given_in (drained_once core m).answer ≡ [] = nil_from_length (given_in (drained_once core m).answer) none in
      ap (λ (es : List CoreEvent). all_frames (after_events core es) m) (drains_end core m (suc more) nothing) ∙ drained_empty core m nothing
  | inr some ↦
      ap (λ (es : List CoreEvent). all_frames (after_events core es) m) (drains_more core m more some)
      ∙ drains_empty (drained_once core m).core m more (omega (arith, fewer_left core m some, few))
]

stays_empty : (core : Core) (es : List CoreEvent) (m : ℕ) → AreDrains es → all_frames core m ≡ [] → all_frames (after_events core es) m ≡ []
stays_empty core [] m are none = none
stays_empty core (e ∷ es) m are none =
    stays_empty (core_happens core e AnsweredOk).core es m are.1 (drain_by (λ d. all_frames (core_happens core d AnsweredOk).core m ≡ []) (λ k room. still_empty core k m room none) e are.0)

turns_empty : (core : Core) (ms : List ℕ) → All (λ m. all_frames (after_events core (drains_in_turn core ms)) m ≡ []) ms
turns_empty core [] = All-nil (λ m. all_frames core m ≡ [])
turns_empty core (m ∷ ms) =
    let first : Core = after_events core (drains_for core m) in
    let rest : List CoreEvent = drains_in_turn first ms in
    subst (λ (c : Core). All (λ k. all_frames c k ≡ []) (m ∷ ms)) (sym (after_then core (drains_for core m) rest))
    (All-cons (λ k. all_frames (after_events first rest) k ≡ []) m ms
    (stays_empty first rest m (turns_are first ms) (drains_empty core m (length (all_frames core m)) (omega arith))) (turns_empty first ms))

-- what holds of the other numbers
among_others : (P : ℕ → Type 0) (me : ℕ) (numbers : List ℕ) → All P (others numbers me) → All (λ k. (k == me) ≡ false → P k) numbers
among_others P me [] all = All-nil (λ k. (k == me) ≡ false → P k)
among_others P me (n ∷ ns) all = elim (cases_Bool (n == me)) [
  | inl own ↦
      All-cons (λ k. (k == me) ≡ false → P k) n ns (λ other. absurd (both (n == me) own other))
      (among_others P me ns (subst (All P) (cond-false (not (n == me)) (n ∷ others ns me) (others ns me) (ap not own)) all))
  | inr other ↦
      let front : All P (n ∷ others ns me) = subst (All P) (cond-true (not (n == me)) (n ∷ others ns me) (others ns me) (ap not other)) all in
      All-cons (λ k. (k == me) ≡ false → P k) n ns (λ _. All-head P n (others ns me) front) (among_others P me ns (All-tail P n (others ns me) front))
]
  where
    both : (b : Bool) → b ≡ true → b ≡ false → ⊥
    both b is is_not = cc

pub drains_leave_nothing : DrainsEmpty
drains_leave_nothing numbers core =
    let es : List CoreEvent = drains_of numbers core in
    let after : Core = after_events core es in
    subst (λ (n : Node). All (λ k. (k == n.me) ≡ false → all_frames after k ≡ []) numbers) (sym (node_still core es (turns_are core (others numbers core.node.me))))
    (among_others (λ k. all_frames after k ≡ []) core.node.me numbers (turns_empty core (others numbers core.node.me)))

pub last_gives_nothing : LastGivesNothing
last_gives_nothing numbers core =
    let after : Core = after_events core (drains_of numbers core) in
    All-weaker (λ k. (k == after.node.me) ≡ false → all_frames after k ≡ []) (λ k. (k == after.node.me) ≡ false → given_in (drained_once after k).answer ≡ [])
    (λ k left other. ap (λ (fs : Frames). frames_in (that_fit fs longest_frame)) (left other)) numbers (drains_leave_nothing numbers core)
