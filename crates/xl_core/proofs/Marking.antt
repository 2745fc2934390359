-- The word that tells for whom something is left is right after each change.
use Rattle.std.proofs.Common.{◌≡◌, ◌∙◌, ℕ, suc, ◌<◌, ◌≤◌, ◌++◌, Bool, true, false, cond, eqb, List, [], ◌∷◌, length, drop, get_or, refl, sym, ap, subst, arith, None, Some, Option, ne_eqb}
use Rattle.std.proofs.lemmas.List.{ext_get_or, get_or-map, get_or-replicate, length-replicate, length-append, length-drop, length-map}
use Rattle.std.proofs.lemmas.Nat.Bits.{bit_at_ones, bit_at-zero}
use Rattle.std.specs.Prelude.{is_some, nat_lt}
use Rattle.xl_queues.specs.Broadcasts.{pushed_to_all}
use Rattle.xl_queues.specs.Queues.{Backlog, no_items, pushed, with_item}
use Rattle.xl_core.specs.declared.the_core.greeting.Greeting.{Greeting}
use Rattle.xl_core.specs.declared.item.Item.{Item}
use Rattle.xl_core.specs.Greetings.{greeting_at, none_greeted}
use Rattle.xl_core.specs.Marks.{AreMarks, StayMarks, mark}
use Rattle.xl_core.specs.Queues.{most_waiting, none_waiting}

-- something waits after a push
pushed_some : (items : List Item) (item : Item) → 0 < length (pushed most_waiting items item)
pushed_some items item = by (nat_lt (length items) 64) refl
  where
    by : (b : Bool) → nat_lt (length items) 64 ≡ b → 0 < length (cond b (items ++ item ∷ []) (drop 1 (items ++ item ∷ [])))
    by true is = omega (arith, length-append items (item ∷ []))
    by false is =
        let many : 64 ≤ length items = grind (arith, is) in
        omega (arith, many, length-drop 1 (items ++ item ∷ []), length-append items (item ∷ []))

busy : (b : Bool) (n : ℕ) → 0 < n → cond b false (eqb n 0) ≡ false
busy true n some = refl
busy false n some = ne_eqb n 0 (omega arith)

-- an item waits for every number
pub pushed_marks : (word : ℕ) (waiting : List (Backlog Item)) (item : Item) → StayMarks word 18446744073709551615 waiting (pushed_to_all most_waiting waiting item)
pushed_marks word waiting item greetings was = record {
  numbers = length-map waiting (λ q. with_item most_waiting q item) ∙ was.numbers;
  each = λ place lt.
      let queue : Backlog Item = get_or waiting place no_items in
      let is = get_or-map (λ q. with_item most_waiting q item) waiting place no_items no_items (omega (arith, lt, was.numbers)) in
      bit_at_ones 64 place lt
      ∙ sym (ap (λ (q : Backlog Item). mark (cond (is_some (greeting_at greetings (suc place))) false (eqb (length q.items) 0))) is
      ∙ ap mark (busy (is_some (greeting_at greetings (suc place))) (length (pushed most_waiting queue.items item)) (pushed_some queue.items item)));
}

-- a clear mark says that nobody was greeted
unmarked : (o : Option Greeting) (idle : Bool) → mark (cond (is_some o) false idle) ≡ 0 → o ≡ None
unmarked None idle clear = refl
unmarked (Some greeting) idle clear = absurd (omega (arith, clear))

pub none_left : (greetings : List (Option Greeting)) (waiting : List (Backlog Item)) → length greetings ≡ 64 → AreMarks 0 greetings waiting → greetings ≡ none_greeted
none_left greetings waiting long marks =
    ext_get_or None greetings none_greeted (long ∙ sym (length-replicate {A = Option Greeting} 64 None))
    (λ place within.
    let lt : place < 64 = omega (arith, within, long) in
    unmarked (get_or greetings place None) (eqb (length (get_or waiting place no_items).items) 0) (sym (marks.each place lt) ∙ bit_at-zero place)
    ∙ sym (get_or-replicate 64 place None None lt))

-- nothing was ever left
pub none_marked : (waiting : List (Backlog Item)) → waiting ≡ none_waiting → AreMarks 0 none_greeted waiting
none_marked waiting is =
    subst (λ (ws : List (Backlog Item)). AreMarks 0 none_greeted ws) (sym is)
    (record {
      numbers = length-replicate {A = Backlog Item} 64 no_items;
      each = λ place lt.
          bit_at-zero place
          ∙ sym (ap (λ (o : Option Greeting). mark (cond (is_some o) false (eqb (length (get_or none_waiting place no_items).items) 0))) (get_or-replicate 64 place None None lt)
          ∙ ap (λ (q : Backlog Item). mark (eqb (length q.items) 0)) (get_or-replicate 64 place no_items no_items lt));
    })
