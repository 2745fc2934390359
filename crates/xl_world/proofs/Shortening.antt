-- A drain that gives something leaves fewer frames for its number: fewer headers of a greeting, or fewer items that wait.
use Rattle.std.proofs.Common.{◌≡◌, ℕ, zero, suc, ◌+◌, ◌-◌, ◌<◌, List, [], ◌∷◌, ◌++◌, length, get_or, set, take, drop, refl, arith, ap, sym, ◌∙◌, inl, inr, Option, Some, None}
use Rattle.std.specs.Prelude.{nat_le, option_map}
use Rattle.std.proofs.lemmas.Bool.{cases_Bool, cases_lt, cond-true, cond-false}
use Rattle.std.proofs.lemmas.List.{get_or-set_same, get_or_past, length-append, length-drop, length-map, length-set, length-take}
use Rattle.xl_queues.specs.Broadcasts.{queue_of}
use Rattle.xl_queues.specs.Queues.{Backlog, no_items}
use Rattle.xl_wire.specs.Lengths.{longest_frame}
use Rattle.xl_core.specs.declared.the_core.greeting.Greeting.{Greeting}
use Rattle.xl_core.specs.declared.item.Item.{Item}
use Rattle.xl_core.specs.Answers.{given_in}
use Rattle.xl_core.specs.Core.{Core, all_frames, after_drain, given_for, greeted_frames}
use Rattle.xl_core.specs.Greetings.{chain_to, further, further_at, greeting_at, greeting_frames}
use Rattle.xl_core.specs.Items.{frames_for, frame_of, frame_for, header_body_at}
use Rattle.xl_core.specs.Node.{Node}
use Rattle.xl_core.specs.Queues.{after_taking, at_number, count_fitting, frames_in, waiting_at}
use Rattle.xl_world.specs.Emptying.{drained_once}

abbrev Frames : Type 0
Frames = List (Option (List ℕ))

-- WHAT FITS

some_of : (n : ℕ) (fs : Frames) → (length (frames_in (take n fs)) ≡ 0 → ⊥) → 0 < length (take n fs)
some_of zero fs some = absurd (some refl)
some_of (suc n) [] some = absurd (some refl)
some_of (suc n) (f ∷ fs) some = omega arith

-- where a front of these and those gives something, fewer of these are left, or, where there are none of these, fewer of
-- those
shorter : (gs ws : Frames) (room : ℕ) → (length (frames_in (take (count_fitting (gs ++ ws) room) (gs ++ ws))) ≡ 0 → ⊥) →
    (length gs - count_fitting gs room) + (length ws - length (drop (length gs) (take (count_fitting (gs ++ ws) room) (gs ++ ws)))) < length gs + length ws
shorter [] ws room some = omega (arith, some_of (count_fitting ws room) ws some, length-take (count_fitting ws room) ws)
shorter (None ∷ gs) ws room some = omega arith
shorter (Some f ∷ gs) ws room some = elim (cases_Bool (nat_le (length f) room)) [
  | inl fits ↦ omega (arith, cond-true (nat_le (length f) room) (suc (count_fitting gs (room - length f))) 0 fits)
  | inr long ↦ absurd (some (ap (λ (n : ℕ). length (frames_in (take n (Some f ∷ (gs ++ ws))))) (cond-false (nat_le (length f) room) (suc (count_fitting (gs ++ ws) (room - length f))) 0 long)))
]

-- WHAT IS LEFT

-- of a queue, once so many were taken
queue_short : (waiting : List (Backlog Item)) (m : ℕ) (fs : Frames) → length (waiting_at (at_number waiting m (after_taking fs)) m).items ≡ length (waiting_at waiting m).items - length fs
queue_short waiting zero fs = omega arith
queue_short waiting (suc place) fs =
    let taken : Backlog Item = after_taking fs (queue_of waiting place) in
    elim (cases_lt place (length waiting)) [
      | inl within ↦
          ap (λ (q : Backlog Item). length q.items) (get_or-set_same waiting place taken no_items within) ∙ length-drop (length fs) (queue_of waiting place).items
      | inr past ↦
          let before : length (queue_of waiting place).items ≡ 0 = ap (λ (q : Backlog Item). length q.items) (get_or_past waiting place no_items past) in
          let after : length (queue_of (set waiting place taken) place).items ≡ 0 =
          ap (λ (q : Backlog Item). length q.items) (get_or_past (set waiting place taken) place no_items (omega (arith, past, length-set waiting place taken))) in
          omega (arith, before, after)
    ]

-- of a greeting, once so many more headers were handed out
further_short : (n : Node) (to count : ℕ) (o : Option Greeting) → length (greeting_frames n (option_map (further count) o) to) ≡ length (greeting_frames n o to) - count
further_short n to count None = omega arith
further_short n to count (Some g) =
    let headers : List ℕ = chain_to n.ledgers.headers g.target in
    omega (
      arith,
      length-map (drop (g.next + count) headers) (λ ledger. frame_for n to (header_body_at n ledger)),
      length-map (drop g.next headers) (λ ledger. frame_for n to (header_body_at n ledger)),
      length-drop (g.next + count) headers,
      length-drop g.next headers,
    )

greeting_short : (n : Node) (greetings : List (Option Greeting)) (m to count : ℕ) → length (greeting_frames n (greeting_at (further_at greetings m count) m) to) ≡ length (greeting_frames n (greeting_at greetings m) to) - count
greeting_short n greetings zero to count = omega arith
greeting_short n greetings (suc place) to count =
    let moved : Option Greeting = option_map (further count) (get_or greetings place None) in
    elim (cases_lt place (length greetings)) [
      | inl within ↦ ap (λ o. length (greeting_frames n o to)) (get_or-set_same greetings place moved None within) ∙ further_short n to count (get_or greetings place None)
      | inr past ↦
          let before : length (greeting_frames n (get_or greetings place None) to) ≡ 0 = ap (λ o. length (greeting_frames n o to)) (get_or_past greetings place None past) in
          let after : length (greeting_frames n (get_or (set greetings place moved) place None) to) ≡ 0 =
          ap (λ o. length (greeting_frames n o to)) (get_or_past (set greetings place moved) place None (omega (arith, past, length-set greetings place moved))) in
          omega (arith, before, after)
    ]

-- how many frames a drain leaves for its number
pub left_after : (core : Core) (m room : ℕ) → length (all_frames (after_drain core m room) m)
    ≡ (length (greeted_frames core m) - count_fitting (greeted_frames core m) room)
    + (length (frames_for core.node core.waiting m) - length (drop (length (greeted_frames core m)) (given_for core m room)))
left_after core m room =
    let gs : Frames = greeted_frames core m in
    let ws : Frames = frames_for core.node core.waiting m in
    let after : Core = after_drain core m room in
    let taken : Frames = drop (length gs) (given_for core m room) in
    let greeted : length (greeted_frames after m) ≡ length gs - count_fitting gs room = greeting_short core.node core.greetings m m (count_fitting gs room) in
    let waits : length (frames_for core.node after.waiting m) ≡ length ws - length taken =
    length-map (waiting_at after.waiting m).items (frame_of core.node m)
    ∙ (queue_short core.waiting m taken ∙ ap (λ (k : ℕ). k - length taken) (sym (length-map (waiting_at core.waiting m).items (frame_of core.node m)))) in
    omega (arith, greeted, waits, length-append (greeted_frames after m) (frames_for core.node after.waiting m))

pub fewer_left : (core : Core) (m : ℕ) → (length (given_in (drained_once core m).answer) ≡ 0 → ⊥) → length (all_frames (drained_once core m).core m) < length (all_frames core m)
fewer_left core m some =
    let gs : Frames = greeted_frames core m in
    let ws : Frames = frames_for core.node core.waiting m in
    omega (arith, left_after core m longest_frame, shorter gs ws longest_frame some, length-append gs ws)
