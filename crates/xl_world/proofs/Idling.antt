-- If nothing is left for any other number, the drains for them change nothing and give nothing.
use Rattle.std.proofs.Common.{◌≡◌, ◌≢◌, ◌∙◌, ℕ, zero, suc, ◌<◌, Bool, true, false, List, [], ◌∷◌, ◌++◌, ◌+◌, length, drop, take, get_or, set, min, bit_and, subst, eq-eqb, map, refl, ap, sym, arith, Option, Some, None, ne_eqb}
use Rattle.std.specs.Int.{bit_at}
use Rattle.std.specs.Prelude.{◌==◌, All, if◌then◌else◌, is_some, not, option_map}
use Rattle.std.proofs.lemmas.Bool.{cond_both}
use Rattle.std.proofs.lemmas.Nat.Bits.{bit_at_and}
use Rattle.std.proofs.lemmas.List.{set-get_or, take_more}
use Rattle.std.proofs.lemmas.List.Elements.{All-append, All-cons, All-head, All-nil, All-tail, All-weaker}
use Rattle.xl_queues.specs.Queues.{Backlog}
use Rattle.xl_core.specs.Answers.{Gave, given_in}
use Rattle.xl_core.specs.Core.{Core, CoreReply, all_frames, core_reply, given_for, greeted_frames, is_idle, Marks}
use Rattle.xl_core.specs.Greetings.{further, further_at, greeting_at, greeting_frames}
use Rattle.xl_core.specs.Items.{frame_of}
use Rattle.xl_core.specs.Queues.{after_taking, at_number, count_fitting, frames_in, that_fit, waiting_at}
use Rattle.xl_core.specs.declared.event.CoreEvent.{CoreEvent}
use Rattle.xl_core.specs.declared.the_core.greeting.Greeting.{Greeting}
use Rattle.xl_core.specs.declared.item.Item.{Item}
use Rattle.xl_core.proofs.Draining.{taking_none}
use Rattle.xl_wire.specs.Lengths.{longest_frame}
use Rattle.xl_world.specs.Emptying.{after_events, drained_once, drains_for, drains_in_turn, given_by, others}
use Rattle.xl_world.specs.Sending.{Sent}
use Rattle.xl_world.specs.World.{sent_in}
use Rattle.xl_world.specs.Marked.{AreMarked, IsMarked}
use Rattle.xl_world.proofs.Drains.{after_then, drains_end, given_then}

-- A DRAIN

none_left : (o : Option Greeting) (items : List Item) → (if is_some o then false else (length items == 0)) ≡ true → (o ≡ None) × (items ≡ [])
none_left None [] is = (refl, refl)
none_left None (x ∷ xs) is =
    let some : (length (x ∷ xs) == 0) ≡ false = ne_eqb (length (x ∷ xs)) 0 (omega arith) in
    let never : true ≡ false = sym is ∙ some in
    cc
none_left (Some g) items is = cc

further_none : (gs : List (Option Greeting)) (m count : ℕ) → greeting_at gs m ≡ None → further_at gs m count ≡ gs
further_none gs zero count none = refl
further_none gs (suc p) count none = ap (λ (o : Option Greeting). set gs p (option_map (further count) o)) none ∙ ap (λ (o : Option Greeting). set gs p o) (sym none) ∙ set-get_or gs p None

-- one for an idle member leaves the core, and gives nothing
idle_drained : (core : Core) (m : ℕ) → is_idle core m ≡ true → drained_once core m ≡ core_reply core (Gave m [])
idle_drained core m idle =
    let none = none_left (greeting_at core.greetings m) (waiting_at core.waiting m).items idle in
    let greeted : greeted_frames core m ≡ [] = ap (λ (o : Option Greeting). greeting_frames core.node o m) none.0 in
    let all : all_frames core m ≡ [] =
    ap (λ (fs : List (Option (List ℕ))). fs ++ map (frame_of core.node m) (waiting_at core.waiting m).items) greeted ∙ ap (map (frame_of core.node m)) none.1 in
    let given : given_for core m longest_frame ≡ [] = ap (λ (fs : List (Option (List ℕ))). that_fit fs longest_frame) all in
    let taken : drop (length (greeted_frames core m)) (given_for core m longest_frame) ≡ [] =
    ap (λ (fs : List (Option (List ℕ))). drop (length fs) (given_for core m longest_frame)) greeted ∙ given in
    let greetings : further_at core.greetings m (count_fitting (greeted_frames core m) longest_frame) ≡ core.greetings = further_none core.greetings m (count_fitting (greeted_frames core m) longest_frame) none.0 in
    let waiting : at_number core.waiting m (after_taking (drop (length (greeted_frames core m)) (given_for core m longest_frame))) ≡ core.waiting =
    ap (λ (fs : List (Option (List ℕ))). at_number core.waiting m (after_taking fs)) taken ∙ taking_none core.waiting m in
    ap (λ (gs : List (Option Greeting)). let c : Core = record core { greetings = gs; waiting = at_number core.waiting m (after_taking (drop (length (greeted_frames core m)) (given_for core m longest_frame))) } in
    core_reply c (Gave m (frames_in (given_for core m longest_frame)))) greetings
    ∙ ap (λ (ws : List (Backlog Item)). let c : Core = record core { waiting = ws } in core_reply c (Gave m (frames_in (given_for core m longest_frame)))) waiting
    ∙ ap (λ (fs : List (Option (List ℕ))). core_reply core (Gave m (frames_in fs))) given

-- ALL DRAINS

pub record IsStill (core : Core) (es : List CoreEvent) : Type 0 where
  pub leaves : after_events core es ≡ core
  pub gives : given_by core es ≡ []

idle_still : (core : Core) (m : ℕ) → is_idle core m ≡ true → IsStill core (drains_for core m)
idle_still core m idle =
    let once = idle_drained core m idle in
    let none : given_in (drained_once core m).answer ≡ [] = ap (λ (r : CoreReply). given_in r.answer) once in
    let last = drains_end core m (length (all_frames core m)) none in
    record {
      leaves = ap (after_events core) last ∙ ap (λ (r : CoreReply). r.core) once;
      gives = ap (given_by core) last ∙ ap (λ (r : CoreReply). sent_in core.node.me r.answer ++ []) once;
    }

pub turns_still : (core : Core) (ms : List ℕ) → All (λ m. is_idle core m ≡ true) ms → IsStill core (drains_in_turn core ms)
turns_still core [] all = record { leaves = refl; gives = refl }
turns_still core (m ∷ ms) all =
    let first : List CoreEvent = drains_for core m in
    let one = idle_still core m (All-head (λ k. is_idle core k ≡ true) m ms all) in
    let rest = turns_still core ms (All-tail (λ k. is_idle core k ≡ true) m ms all) in
    record {
      leaves = after_then core first (drains_in_turn (after_events core first) ms) ∙ ap (λ (c : Core). after_events c (drains_in_turn c ms)) one.leaves ∙ rest.leaves;
      gives = given_then core first (drains_in_turn (after_events core first) ms)
          ∙ (ap (λ (fs : List Sent). fs ++ given_by (after_events core first) (drains_in_turn (after_events core first) ms)) one.gives
          ∙ (ap (λ (c : Core). given_by c (drains_in_turn c ms)) one.leaves ∙ rest.gives));
    }

-- THE MARKS OF THE NUMBERS

pub marked_none : AreMarked 0 []
marked_none = All-nil (IsMarked 0)

still_marked : (word word' : ℕ) (numbers : List ℕ) → ((place : ℕ) → bit_at word place ≡ 1 → bit_at word' place ≡ 1) → AreMarked word numbers → AreMarked word' numbers
still_marked word word' numbers keeps all = All-weaker (IsMarked word) (IsMarked word') (λ m at. (at.0, at.1, at.2, keeps at.0 at.3)) numbers all

-- one number more
pub marked_more : (word word' : ℕ) (numbers : List ℕ) (k m : ℕ) → k < length numbers → m ≡ get_or numbers k m → AreMarked word (take k numbers) → IsMarked word' m →
    ((place : ℕ) → bit_at word place ≡ 1 → bit_at word' place ≡ 1) → AreMarked word' (take (k + 1) numbers)
marked_more word word' numbers k m k_in is all own keeps =
    subst (AreMarked word') (sym (take_more numbers k m k_in ∙ ap (λ (x : ℕ). take k numbers ++ x ∷ []) (sym is)))
    (All-append (IsMarked word') (take k numbers) (m ∷ []) (still_marked word word' (take k numbers) keeps all) (All-cons (IsMarked word') m [] own (All-nil (IsMarked word'))))

-- nothing is left for a marked number whose bit is clear among the marked ones of those for whom something is left
pub bit_idle : (core : Core) (waiting marks place : ℕ) → Marks waiting core → place < 64 → bit_at marks place ≡ 1 → bit_at (bit_and waiting marks) place ≡ 0 → is_idle core (suc place) ≡ true
bit_idle core waiting marks place are lt marked clear = tested (is_idle core (suc place)) bit
  where
    bit : ◌≡◌ {A = ℕ} (if is_idle core (suc place) then 0 else 1) 0
    bit = sym (are place lt) ∙ least (bit_at waiting place) (bit_at marks place) (sym (bit_at_and waiting marks place) ∙ clear) marked
      where
        least : (a b : ℕ) → min a b ≡ 0 → b ≡ 1 → a ≡ 0
        least a b none one = omega (arith, none, one)

    tested : (b : Bool) → ◌≡◌ {A = ℕ} (if b then 0 else 1) 0 → b ≡ true
    tested true is = refl
    tested false is = cc

-- a core that is idle for each marked number except its own is so for each other one of the numbers
pub others_idle : (core : Core) (word : ℕ) (numbers : List ℕ) → AreMarked word numbers →
    ((place : ℕ) → place < 64 → bit_at word place ≡ 1 → suc place ≢ core.node.me → is_idle core (suc place) ≡ true) → All (λ m. is_idle core m ≡ true) (others numbers core.node.me)
others_idle core word [] marked idle = All-nil (λ m. is_idle core m ≡ true)
others_idle core word (m ∷ ms) marked idle =
    let rest = others_idle core word ms (All-tail (IsMarked word) m ms marked) idle in
    let at = All-head (IsMarked word) m ms marked in
    cond_both (not (m == core.node.me)) (m ∷ others ms core.node.me) (others ms core.node.me) (All (λ k. is_idle core k ≡ true))
    (λ other.
    All-cons (λ k. is_idle core k ≡ true) m (others ms core.node.me)
    (ap (is_idle core) at.2 ∙ idle at.0 at.1 at.3 (λ same. not_both (m == core.node.me) other (eq-eqb m core.node.me (at.2 ∙ same)))) rest)
    (λ _. rest)
  where
    not_both : (b : Bool) → not b ≡ true → b ≡ true → ⊥
    not_both true is_not is = cc
    not_both false is_not is = cc
