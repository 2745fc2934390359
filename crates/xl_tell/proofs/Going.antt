-- The parts of an event, of which some are told and the others are left.
use Rattle.std.proofs.Common.{◌≡◌, ℕ, suc, ◌+◌, ◌-◌, ◌<◌, ◌≤◌, List, [], ◌∷◌, ◌++◌, length, drop, get_or, map, Option, Some, arith, ap, sym, subst, ◌∙◌, append_assoc, append-nil}
use Rattle.xl_running.specs.Running.{Running, happens, in_world, world_of}
use Rattle.xl_sched.specs.declared.event.Event.{Event}
use Rattle.xl_sched.specs.declared.event.What.TheVariants as what
use Rattle.xl_sched.specs.declared.named.Named.{Named}
use Rattle.xl_sched.specs.Reading.{Reading}
use Rattle.xl_tell.specs.Parts.{lines_of_parts, part_lines}
use Rattle.xl_world.specs.Parts.{after_events, delivery_at, drop_at, parts_at, timer_at}
use Rattle.xl_world.specs.Plans.{up_from}
use Rattle.xl_world.specs.Schedule.{after_event}
use Rattle.xl_world.specs.World.{World}
use Rattle.xl_world.proofs.Going.{at_place, none_left as none_left_of}

-- what is told of parts in a world, by what was read before them
abbrev pub told_in : Running → World → List Event → List ℕ
told_in r w es = lines_of_parts r.reading.names r.reading.lines w es

-- from `before` on, with this text, all of these parts lead where the left ones lead now, and tell what is told
pub record Goes (before now : Running) (old text : List ℕ) (all left : List Event) : Type 0 where
  pub kept : now ≡ in_world before (world_of now)
  pub world : after_events (world_of now) left ≡ after_events (world_of before) all
  pub told : text ++ told_in before (world_of now) left ≡ old ++ told_in before (world_of before) all

pub as_open : (r : Running) → r.world ≡ Some (world_of r) → r ≡ in_world r (world_of r)
as_open r is = ap (λ (o : Option World). record r { world = o }) is

pub goes_first : (r now : Running) (text : List ℕ) (all left : List Event) → now ≡ in_world r (world_of r) → left ≡ all → Goes r now text text all left
goes_first r now text all left is same =
    let there : world_of now ≡ world_of r = ap world_of is in
    record {
      kept = is ∙ ap (in_world r) (sym there);
      world = ap (λ (u : World). after_events u left) there ∙ ap (after_events (world_of r)) same;
      told = ap (λ (u : World). text ++ told_in r u left) there ∙ ap (λ (es : List Event). text ++ told_in r (world_of r) es) same;
    }

pub goes_further : (before now next : Running) (old text more : List ℕ) (all left : List Event) (e : Event) → Goes before now old text all (e ∷ left) → next ≡ happens now e → more ≡ text ++ part_lines now.reading.names now.reading.lines (world_of now) e → Goes before next old more all left
goes_further before now next old text more all left e goes is tells =
    let w : World = world_of now in
    let v : World = after_event w e in
    let names : List Named = before.reading.names in
    let n : ℕ = before.reading.lines in
    let there : world_of next ≡ v = ap world_of is in
    let reading : now.reading ≡ before.reading = ap (λ (r : Running). r.reading) goes.kept in
    let tells_so : more ≡ text ++ part_lines names n w e = tells ∙ ap (λ (k : Reading). text ++ part_lines k.names k.lines w e) reading in
    record {
      kept = is ∙ (ap (λ (r : Running). in_world r v) goes.kept ∙ ap (in_world before) (sym there));
      world = ap (λ (u : World). after_events u left) there ∙ goes.world;
      told =
          ap (λ (t : List ℕ). t ++ told_in before (world_of next) left) tells_so
          ∙ (append_assoc text (part_lines names n w e) (told_in before (world_of next) left)
          ∙ (ap (λ (u : World). text ++ (part_lines names n w e ++ told_in before u left)) there ∙ goes.told));
    }

-- with the left parts in another form
pub goes_as : (before now : Running) (old text : List ℕ) (all left same : List Event) → left ≡ same → Goes before now old text all left → Goes before now old text all same
goes_as before now old text all left same is goes = subst (λ (es : List Event). Goes before now old text all es) is goes

pub is_open : (before now : Running) (old text : List ℕ) (all left : List Event) → Goes before now old text all left → now.world ≡ Some (world_of now)
is_open before now old text all left goes = ap (λ (r : Running). r.world) goes.kept

pub leads_there : (before now : Running) (old text : List ℕ) (all : List Event) → Goes before now old text all [] → now ≡ in_world before (after_events (world_of before) all)
leads_there before now old text all goes = goes.kept ∙ ap (in_world before) goes.world

pub tells_all : (before now : Running) (old text : List ℕ) (all : List Event) → Goes before now old text all [] → text ≡ old ++ told_in before (world_of before) all
tells_all before now old text all goes = sym (append-nil text) ∙ goes.told

-- the frames from a place up to another are to be delivered, and then the mark is to move
abbrev pub deliveries_left : ℕ → ℕ → ℕ → List Event
deliveries_left at place end = map (delivery_at at) (up_from (place + 1) (end - place)) ++ drop_at at ∷ []

pub deliveries_first : (r : Running) (text : List ℕ) (at mark end : ℕ) → r.world ≡ Some (world_of r) → mark ≡ (world_of r).mark → end ≡ length (world_of r).sent → Goes r r text text (parts_at (world_of r) at what.All) (deliveries_left at mark end)
deliveries_first r text at mark end opened from to =
    goes_first r r text (parts_at (world_of r) at what.All) (deliveries_left at mark end) (as_open r opened)
    (ap (λ (k : ℕ). deliveries_left at k end) from ∙ ap (λ (k : ℕ). deliveries_left at (world_of r).mark k) to)

pub one_left : (at place end : ℕ) → place < end → deliveries_left at place end ≡ delivery_at at (place + 1) ∷ deliveries_left at (place + 1) end
unfolding up_from
one_left at place end lt =
    let one : end - place ≡ suc (end - (place + 1)) = omega (arith, lt) in
    ap (λ (k : ℕ). map (delivery_at at) (up_from (place + 1) k) ++ drop_at at ∷ []) one

none_left : (at place end : ℕ) → end ≤ place → deliveries_left at place end ≡ drop_at at ∷ []
unfolding up_from
none_left at place end le =
    let none : end - place ≡ 0 = omega (arith, le) in
    ap (λ (k : ℕ). map (delivery_at at) (up_from (place + 1) k) ++ drop_at at ∷ []) none

-- then the mark moves, and all is told
pub deliveries_done : (r now next : Running) (old text more : List ℕ) (at place end : ℕ) → end ≤ place → Goes r now old text (parts_at (world_of r) at what.All) (deliveries_left at place end) → next ≡ happens now (drop_at at) →
    more ≡ text ++ part_lines now.reading.names now.reading.lines (world_of now) (drop_at at) → Goes r next old more (parts_at (world_of r) at what.All) []
deliveries_done r now next old text more at place end past goes is tells =
    let all : List Event = parts_at (world_of r) at what.All in
    goes_further r now next old text more all [] (drop_at at) (goes_as r now old text all (deliveries_left at place end) (drop_at at ∷ []) (none_left at place end past) goes) is tells

-- timers

pub one_timer : (at : ℕ) (numbers : List ℕ) (i node : ℕ) → i < length numbers → node ≡ get_or numbers i node → map (timer_at at) (drop i numbers) ≡ timer_at at node ∷ map (timer_at at) (drop (i + 1) numbers)
one_timer at numbers i node within is =
    let here = at_place numbers [] i within in
    let its : here.0 ≡ node = sym (is ∙ here.3 node) in
    let next : suc i ≡ i + 1 = omega arith in
    ap (map (timer_at at)) (here.2 ∙ (ap (λ (k : ℕ). k ∷ drop (suc i) numbers) its ∙ ap (λ (n : ℕ). node ∷ drop n numbers) next))

pub timers_done : (r now : Running) (old text : List ℕ) (at : ℕ) (numbers : List ℕ) (i : ℕ) → length numbers ≤ i → Goes r now old text (parts_at (world_of r) at what.Timers) (map (timer_at at) (drop i numbers)) →
    Goes r now old text (parts_at (world_of r) at what.Timers) []
timers_done r now old text at numbers i past goes =
    goes_as r now old text (parts_at (world_of r) at what.Timers) (map (timer_at at) (drop i numbers)) [] (ap (map (timer_at at)) (none_left_of numbers i past)) goes
