-- Events that come one after the other.
use Rattle.std.proofs.Common.{◌≡◌, ℕ, suc, ◌+◌, ◌-◌, ◌≤◌, Bool, cond, List, [], ◌∷◌, ◌++◌, arith, refl, ap, sym, ◌∙◌, append_assoc, subst, Result, Ok, Err, OnOk}
use Rattle.std.specs.Prelude.{map, count_by, length}
use Rattle.std.specs.List.{flat_map}
use Rattle.std.proofs.lemmas.Grind.{flat_map-append}
use Rattle.std.proofs.lemmas.List.{append-nil, length-append, map-append}
use Rattle.std.proofs.lemmas.List.Sums.{count_by-le-length, sum_by-append}
use Rattle.xl_base.specs.declared.memory.OutOfMemory.{OutOfMemory}
use Rattle.xl_base.specs.declared.ids.TxId.{TxId}
use Rattle.xl_sched.specs.declared.event.Event.{Event}
use Rattle.xl_sched.specs.declared.event.What.TheVariants.{Timers, Submit, All}
use Rattle.xl_world.specs.declared.plan.PlanNode.{PlanNode}
use Rattle.xl_world.specs.Plans.{up_from}
use Rattle.xl_world.proofs.Numbers.{up_from_more}
use Rattle.xl_world.specs.declared.outcome.Outcome.{Outcome}
use Rattle.xl_world.specs.World.{World}
use Rattle.xl_world.specs.Schedule.{after_event, outcomes}
use Rattle.xl_gen.specs.declared.counts.Counts.{Counts}
use Rattle.xl_gen.specs.declared.generator.Generator.{Generator}
use Rattle.xl_gen.specs.Schedule.{after, event_at, events_at, events_of, events_in, moment_of, node_of, plan, second_lines, submits, submissions_in, outcomes_of, tx_of}
use Rattle.xl_gen.specs.Summaries.{with_outcomes, is_built, is_refused, Comes}
use Rattle.xl_replay.specs.Headlines.{is_full}

-- a count over two lists, and over none
count_both : {X : Type 0} (p : X → Bool) (xs ys : List X) → count_by p (xs ++ ys) ≡ count_by p xs + count_by p ys
count_both p xs ys = sum_by-append (λ x. cond (p x) 1 0) xs ys

count_none : {X : Type 0} (p : X → Bool) → count_by p [] ≡ 0
count_none p = let few = count_by-le-length p [] in omega (arith, few)

-- these counts
abbrev total : ℕ → ℕ → ℕ → Counts
total refused built full = record { refused = refused; built = built; full = full }

-- the counts after more outcomes
pub counted_both : (c : Counts) (os ps : List Outcome) → with_outcomes c (os ++ ps) ≡ with_outcomes (with_outcomes c os) ps
counted_both c os ps =
    let refused : c.refused + count_by is_refused (os ++ ps) ≡ c.refused + count_by is_refused os + count_by is_refused ps =
    let both = count_both is_refused os ps in omega (arith, both) in
    let built : c.built + count_by is_built (os ++ ps) ≡ c.built + count_by is_built os + count_by is_built ps =
    let both = count_both is_built os ps in omega (arith, both) in
    let full : c.full + count_by is_full (os ++ ps) ≡ c.full + count_by is_full os + count_by is_full ps =
    let both = count_both is_full os ps in omega (arith, both) in
    ap (λ (n : ℕ). total n (c.built + count_by is_built (os ++ ps)) (c.full + count_by is_full (os ++ ps))) refused
    ∙ (ap (λ (n : ℕ). total (c.refused + count_by is_refused os + count_by is_refused ps) n (c.full + count_by is_full (os ++ ps))) built
    ∙ ap (λ (n : ℕ). total (c.refused + count_by is_refused os + count_by is_refused ps) (c.built + count_by is_built os + count_by is_built ps) n) full)

pub counted_none : (c : Counts) → with_outcomes c [] ≡ c
counted_none c =
    let refused : c.refused + count_by is_refused [] ≡ c.refused = let none = count_none is_refused in omega (arith, none) in
    let built : c.built + count_by is_built [] ≡ c.built = let none = count_none is_built in omega (arith, none) in
    let full : c.full + count_by is_full [] ≡ c.full = let none = count_none is_full in omega (arith, none) in
    ap (λ (n : ℕ). total n (c.built + count_by is_built []) (c.full + count_by is_full [])) refused
    ∙ (ap (λ (n : ℕ). total c.refused n (c.full + count_by is_full [])) built
    ∙ ap (λ (n : ℕ). total c.refused c.built n) full)

-- the world after more events, and what is told of all
pub after_both : (w : World) (es fs : List Event) → after w (es ++ fs) ≡ after (after w es) fs
after_both w [] fs = refl
after_both w (e ∷ es) fs = after_both (after_event w e) es fs

pub told_both : (w : World) (es fs : List Event) → outcomes_of w (es ++ fs) ≡ outcomes_of w es ++ outcomes_of (after w es) fs
told_both w [] fs = refl
told_both w (e ∷ es) fs =
    ap (λ os. outcomes w e ++ os) (told_both (after_event w e) es fs)
    ∙ sym (append_assoc (outcomes w e) (outcomes_of (after_event w e) es) (outcomes_of (after (after_event w e) es) fs))

-- no event
pub come_none : (g : Generator) → Comes g g []
come_none g = record { world = refl; counts = sym (counted_none g.counts) }

-- more events
pub come_both : (g h i : Generator) (es fs : List Event) → Comes g h es → Comes h i fs → Comes g i (es ++ fs)
come_both g h i es fs first next = record {
  world = next.world ∙ (ap (λ w. after w fs) first.world ∙ sym (after_both g.world es fs));
  counts =
      next.counts
      ∙ (ap (λ (w : World). with_outcomes h.counts (outcomes_of w fs)) first.world
      ∙ (ap (λ (c : Counts). with_outcomes c (outcomes_of (after g.world es) fs)) first.counts
      ∙ (sym (counted_both g.counts (outcomes_of g.world es) (outcomes_of (after g.world es) fs))
      ∙ ap (with_outcomes g.counts) (sym (told_both g.world es fs)))));
}

-- after which a last one is answered
pub come_last : (g h i : Generator) (es fs : List Event) (r : Result (Unit {0}) OutOfMemory) → Comes g h es → OnOk r (Comes h i fs) → OnOk r (Comes g i (es ++ fs))
come_last g h i es fs (Ok done) first next = come_both g h i es fs first next
come_last g h i es fs (Err why) first next = tt

-- one number more
pub events_more : (n k : ℕ) → flat_map events_of (up_from n (suc k)) ≡ flat_map events_of (up_from n k) ++ events_of (n + k)
events_more n k =
    ap (flat_map events_of) (up_from_more n k)
    ∙ (flat_map-append events_of (up_from n k) ((n + k) ∷ []) ∙ ap (λ xs. flat_map events_of (up_from n k) ++ xs) (append-nil (events_of (n + k))))

-- the seconds before this one, and then this one
pub come_second : (g h i : Generator) (m : ℕ) → 1 ≤ m → Comes g h (flat_map events_of (up_from 1 (m - 1))) → Comes h i (events_of m) → Comes g i (flat_map events_of (up_from 1 m))
come_second g h i m least first next =
    let at : 1 + (m - 1) ≡ m = omega (arith, least) in
    let more : flat_map events_of (up_from 1 (suc (m - 1))) ≡ flat_map events_of (up_from 1 (m - 1)) ++ events_of m =
    events_more 1 (m - 1) ∙ ap (λ (k : ℕ). flat_map events_of (up_from 1 (m - 1)) ++ events_of k) at in
    let count : suc (m - 1) ≡ m = omega (arith, least) in
    subst (λ (k : ℕ). Comes g i (flat_map events_of (up_from 1 k))) count
    (subst (λ es. Comes g i es) (sym more) (come_both g h i (flat_map events_of (up_from 1 (m - 1))) (events_of m) first next))

-- no second
pub come_first : (g : Generator) → Comes g g (flat_map events_of (up_from 1 0))
unfolding up_from
come_first g = come_none g

-- one node more
pub nodes_more : (m : ℕ) (before now : List PlanNode) (node : PlanNode) → 1 ≤ m → before ≡ map node_of (up_from 1 (m - 1)) → now ≡ before ++ node ∷ [] → node ≡ node_of m → now ≡ map node_of (up_from 1 (m + 1 - 1))
nodes_more m before now node least is more its =
    let at : 1 + (m - 1) ≡ m = omega (arith, least) in
    let count : m + 1 - 1 ≡ suc (m - 1) = omega (arith, least) in
    more ∙ (ap (λ (xs : List PlanNode). xs ++ node ∷ []) is
    ∙ (ap (λ (d : PlanNode). map node_of (up_from 1 (m - 1)) ++ d ∷ []) (its ∙ ap node_of (sym at))
    ∙ (sym (map-append node_of (up_from 1 (m - 1)) ((1 + (m - 1)) ∷ []))
    ∙ (ap (map node_of) (sym (up_from_more 1 (m - 1))) ∙ ap (λ (k : ℕ). map node_of (up_from 1 k)) (sym count)))))

-- none at first, and seven at last
pub nodes_first : [] ≡ map node_of (up_from 1 0)
unfolding up_from
nodes_first = refl

pub nodes_last : map node_of (up_from 1 7) ≡ plan
unfolding up_from
nodes_last = refl

-- all that happens in a second
pub come_all : (g h i j : Generator) (m s : ℕ) (r : Result (Unit {0}) OutOfMemory) → m ≡ moment_of s → Comes g h (events_at m (submissions_in s)) → Comes h i (event_at m Timers ∷ []) → OnOk r (Comes i j (event_at m All ∷ [])) → OnOk r (Comes g j (events_of s))
come_all g h i j m s r at first timers all =
    let parts : (events_at m (submissions_in s) ++ event_at m Timers ∷ []) ++ event_at m All ∷ [] ≡ events_at m (events_in s) =
    append_assoc (events_at m (submissions_in s)) (event_at m Timers ∷ []) (event_at m All ∷ []) ∙ sym (map-append (event_at m) (submissions_in s) (Timers ∷ All ∷ [])) in
    subst (λ (k : ℕ). OnOk r (Comes g j (events_at k (events_in s)))) at
    (subst (λ es. OnOk r (Comes g j es)) parts
    (come_last g i j (events_at m (submissions_in s) ++ event_at m Timers ∷ []) (event_at m All ∷ []) r
    (come_both g h i (events_at m (submissions_in s)) (event_at m Timers ∷ []) first timers) all))

-- what is submitted at a node, by what the calls of the code answered
pub come_submit : (g h : Generator) (at node number k : ℕ) (t : TxId) (r : Result (Unit {0}) OutOfMemory) → k ≡ node → t ≡ tx_of number → OnOk r (Comes g h (event_at at (Submit k t) ∷ [])) → OnOk r (Comes g h (events_at at (submits (node ∷ []) number)))
come_submit g h at node number k t r is_node is_tx comes =
    subst (λ (n : ℕ). OnOk r (Comes g h (event_at at (Submit n (tx_of number)) ∷ []))) is_node
    (subst (λ (x : TxId). OnOk r (Comes g h (event_at at (Submit k x) ∷ []))) is_tx comes)

-- how many lines there are before the first second, and with one more
pub lines_first : 9 ≡ 9 + length (flat_map second_lines (up_from 1 0))
unfolding up_from
lines_first = refl

pub lines_more : (m count now more : ℕ) → 1 ≤ m → count ≡ 9 + length (flat_map second_lines (up_from 1 (m - 1))) → more ≡ length (second_lines m) → now ≡ count + more → now ≡ 9 + length (flat_map second_lines (up_from 1 (m + 1 - 1)))
lines_more m count now more least is its sum =
    let at : 1 + (m - 1) ≡ m = omega (arith, least) in
    let next : m + 1 - 1 ≡ suc (m - 1) = omega (arith, least) in
    let all : flat_map second_lines (up_from 1 (suc (m - 1))) ≡ flat_map second_lines (up_from 1 (m - 1)) ++ second_lines (1 + (m - 1)) =
    ap (flat_map second_lines) (up_from_more 1 (m - 1))
    ∙ (flat_map-append second_lines (up_from 1 (m - 1)) ((1 + (m - 1)) ∷ []) ∙ ap (λ xs. flat_map second_lines (up_from 1 (m - 1)) ++ xs) (append-nil (second_lines (1 + (m - 1))))) in
    let long : length (flat_map second_lines (up_from 1 (suc (m - 1)))) ≡ length (flat_map second_lines (up_from 1 (m - 1))) + length (second_lines m) =
    ap length all ∙ (length-append (flat_map second_lines (up_from 1 (m - 1))) (second_lines (1 + (m - 1))) ∙ ap (λ (k : ℕ). length (flat_map second_lines (up_from 1 (m - 1))) + length (second_lines k)) at) in
    let total : now ≡ 9 + length (flat_map second_lines (up_from 1 (suc (m - 1)))) = omega (arith, is, its, sum, long) in
    total ∙ ap (λ (k : ℕ). 9 + length (flat_map second_lines (up_from 1 k))) (sym next)
