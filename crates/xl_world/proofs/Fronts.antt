-- A front of what waits for a number was taken, and what is left is the rest.
use Rattle.std.proofs.Common.{◌≡◌, ℕ, ◌≤◌, cond, List, [], ◌∷◌, ◌++◌, length, map, drop, refl, ap, sym, ◌∙◌, Option, Some}
use Rattle.std.specs.Prelude.{count_by}
use Rattle.std.specs.Option.{is_none}
use Rattle.std.proofs.lemmas.List.{drop_at, drop-drop, drop-map, length-append}
use Rattle.std.proofs.lemmas.List.Sums.{sum_by-append}
use Rattle.xl_queues.specs.Queues.{Backlog, without_first}
use Rattle.xl_core.specs.declared.item.Item.{Item}
use Rattle.xl_core.specs.Core.{Core}
use Rattle.xl_core.specs.Items.{frame_of, frames_for}
use Rattle.xl_core.specs.Queues.{after_taking, at_number, lost_more, waiting_at}
use Rattle.xl_core.proofs.Draining.{Frames, at_number_same, changed, changed_again, lost_then, same_backlog}

-- these were taken, and then those
taking_more : (fs gs : Frames) (q : Backlog Item) → after_taking gs (after_taking fs q) ≡ after_taking (fs ++ gs) q
taking_more fs gs q =
    same_backlog (drop-drop (length gs) (length fs) q.items ∙ ap (λ (k : ℕ). drop k q.items) (sym (length-append fs gs)))
    (lost_then (count_by is_none gs) (count_by is_none fs) q.lost ∙ ap (λ (k : ℕ). lost_more k q.lost) (sym (sum_by-append (λ (x : Option (List ℕ)). cond (is_none x) 1 0) fs gs)))

-- a core of which these frames for a number were taken
abbrev pub with_taken : Core → ℕ → Frames → Core
with_taken core to fs = record core { waiting = at_number core.waiting to (after_taking fs) }

pub left : (core : Core) (to : ℕ) (xs ys : Frames) → 1 ≤ to → to ≤ length core.waiting → frames_for core.node core.waiting to ≡ xs ++ ys → frames_for core.node (with_taken core to xs).waiting to ≡ ys
left core to xs ys least most is =
    let items : List Item = (waiting_at core.waiting to).items in
    ap (λ (q : Backlog Item). map (frame_of core.node to) q.items) (changed core.waiting to (after_taking xs) least most)
    ∙ sym (drop-map (frame_of core.node to) (length xs) items)
    ∙ ap (drop (length xs)) is
    ∙ drop_at xs ys (length xs) refl

pub taken_again : (core : Core) (to : ℕ) (xs ys : Frames) → 1 ≤ to → to ≤ length core.waiting → with_taken (with_taken core to xs) to ys ≡ with_taken core to (xs ++ ys)
taken_again core to xs ys least most =
    ap (λ (ws : List (Backlog Item)). let c : Core = record core { waiting = ws } in c)
    (changed_again core.waiting to (after_taking xs) (after_taking ys) least most
    ∙ at_number_same core.waiting to (λ q. after_taking ys (after_taking xs q)) (after_taking (xs ++ ys)) (taking_more xs ys))

-- the oldest item was sent
pub first_sent : (core : Core) (to : ℕ) (frame : List ℕ) → (let c : Core = record core { waiting = at_number core.waiting to without_first } in c) ≡ with_taken core to (Some frame ∷ [])
first_sent core to frame =
    ap (λ (ws : List (Backlog Item)). let c : Core = record core { waiting = ws } in c)
    (at_number_same core.waiting to without_first (after_taking (Some frame ∷ [])) (λ q. refl))
