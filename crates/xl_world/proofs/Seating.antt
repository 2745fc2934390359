-- Where nodes stand: a table of all numbers, and no step moves a node.
use Rattle.std.proofs.Common.{◌≡◌, ◌∙◌, ℕ, zero, suc, ◌+◌, ◌-◌, ◌<◌, ◌≤◌, cond, List, [], ◌∷◌, ◌++◌, Option, Some, None, ap, arith, get_or, length, map, not, refl, sym}
use Rattle.std.specs.Prelude.{◌==◌, if◌then◌else◌, nat_lt}
use Rattle.std.specs.List.{position_or_len}
use Rattle.std.proofs.lemmas.Bool.{cond_both, eqb-true}
use Rattle.std.proofs.lemmas.List.{map_push}
use Rattle.xl_core.specs.declared.event.CoreEvent.{CoreEvent}
use Rattle.xl_io.specs.Keepers.{may_hold}
use Rattle.xl_world.specs.declared.place.Fate.{Fate}
use Rattle.xl_world.specs.declared.place.Place.{Place}
use Rattle.xl_world.specs.Disk.{held_by, restored}
use Rattle.xl_world.specs.Plans.{all_numbers, up_from}
use Rattle.xl_world.specs.Stands.{AreSeats, seat_in}
use Rattle.xl_world.specs.World.{Act, Again, Mark, Step, Torn, World, acts, again, asked_at, core_again, disk_after, moment_in, place_at, put_place, reopened_world, reply_at, run, step, torn_world}
use Rattle.xl_world.proofs.Numbers.{up_from_more}

-- A TABLE OF NUMBERS

-- what a table has at a place, and how long it is
table_at : {X : Type 0} (f : ℕ → X) (n k j : ℕ) (d : X) → j < k → get_or (map f (up_from n k)) j d ≡ f (n + j)
unfolding up_from
table_at f n zero j d less = absurd (omega arith)
table_at f n (suc k) zero d less = let e : n ≡ n + 0 = omega arith in ap f e
table_at f n (suc k) (suc j) d less = let e : (n + 1) + j ≡ n + suc j = omega arith in table_at f (n + 1) k j d (omega (arith, less)) ∙ ap f e

table_long : {X : Type 0} (f : ℕ → X) (n k : ℕ) → length (map f (up_from n k)) ≡ k
unfolding up_from
table_long f n zero = refl
table_long f n (suc k) = ap suc (table_long f (n + 1) k)

-- one number more
pub table_more : {X : Type 0} (f : ℕ → X) (n : ℕ) (xs : List X) (x : X) → 1 ≤ n → xs ≡ map f (up_from 1 (n - 1)) → x ≡ f n → xs ++ x ∷ [] ≡ map f (up_from 1 (n + 1 - 1))
table_more f zero xs x some so_far is = absurd (omega arith)
table_more f (suc k) xs x some so_far is =
    let before : suc k - 1 ≡ k = omega arith in
    let after : suc k + 1 - 1 ≡ suc k = omega arith in
    let last : 1 + k ≡ suc k = omega arith in
    ap (λ ys. ys ++ x ∷ []) (so_far ∙ ap (λ (m : ℕ). map f (up_from 1 m)) before)
    ∙ (ap (λ y. map f (up_from 1 k) ++ y ∷ []) (is ∙ ap f (sym last))
    ∙ (sym (map_push f (up_from 1 k) (1 + k))
    ∙ (ap (map f) (sym (up_from_more 1 k)) ∙ ap (λ (m : ℕ). map f (up_from 1 m)) (sym after))))

-- the seats of all numbers
pub seats_long : (seats : List (Option ℕ)) (places : List Place) → AreSeats seats places → length seats ≡ 64
seats_long seats places are = ap length are ∙ table_long (seat_in places) 1 64

pub seat_there : (seats : List (Option ℕ)) (places : List Place) (i : ℕ) (d : Option ℕ) → AreSeats seats places → 1 ≤ i → i ≤ 64 → get_or seats (i - 1) d ≡ seat_in places i
seat_there seats places i d are least most =
    let e : 1 + (i - 1) ≡ i = omega (arith, least) in
    ap (λ xs. get_or xs (i - 1) d) are ∙ (table_at (seat_in places) 1 64 (i - 1) d (omega (arith, least, most)) ∙ ap (seat_in places) e)

pub seats_same : (seats : List (Option ℕ)) (ps qs : List Place) → ((i : ℕ) → seat_in ps i ≡ seat_in qs i) → AreSeats seats ps → AreSeats seats qs
seats_same seats ps qs same are = are ∙ each all_numbers
  where
    each : (ns : List ℕ) → map (seat_in ps) ns ≡ map (seat_in qs) ns
    each [] = refl
    each (n ∷ ns) = ap (λ x. x ∷ map (seat_in ps) ns) (same n) ∙ ap (λ xs. seat_in qs n ∷ xs) (each ns)

-- NO NODE MOVES

-- where the first of a number stands, or how many there are
abbrev first_of : ℕ → List Place → ℕ
first_of i ps = position_or_len (λ (p : Place). p.core.node.me == i) ps

put_first : (i : ℕ) (q : Place) (ps : List Place) → first_of i (put_place q ps) ≡ first_of i ps
put_first i q [] = refl
put_first i q (x ∷ xs) =
    cond_both (x.core.node.me == q.core.node.me) (q ∷ xs) (x ∷ put_place q xs) (λ ps. first_of i ps ≡ first_of i (x ∷ xs))
    (λ same. ap (λ (m : ℕ). cond (not (m == i)) (1 + first_of i xs) 0) (sym (eqb-true _ _ same)))
    (λ _. ap (λ (n : ℕ). cond (not (x.core.node.me == i)) (1 + n) 0) (put_first i q xs))

put_long : (q : Place) (ps : List Place) → length (put_place q ps) ≡ length ps
put_long q [] = refl
put_long q (x ∷ xs) =
    cond_both (x.core.node.me == q.core.node.me) (q ∷ xs) (x ∷ put_place q xs) (λ ps. length ps ≡ length (x ∷ xs)) (λ _. refl) (λ _. ap suc (put_long q xs))

put_still : (i : ℕ) (q : Place) (ps : List Place) → seat_in (put_place q ps) i ≡ seat_in ps i
put_still i q ps =
    ap (λ (n : ℕ). if nat_lt n (length (put_place q ps)) then Some n else None) (put_first i q ps)
    ∙ ap (λ (n : ℕ). if nat_lt (first_of i ps) n then Some (first_of i ps) else None) (put_long q ps)

-- each number stands where it stood before
abbrev AreStill : World → World → Type 0
AreStill w v = (i : ℕ) → seat_in v.places i ≡ seat_in w.places i

placed_still : (w v : World) (q : Place) → v.places ≡ put_place q w.places → AreStill w v
placed_still w v q is = λ i. ap (λ (ps : List Place). seat_in ps i) is ∙ put_still i q w.places

acts_still : (w : World) (i : ℕ) (e : CoreEvent) (fate : Fate) (o : Option Place) → AreStill w (acts w i e fate o)
acts_still w i e fate None = λ j. refl
acts_still w i e fate (Some p) =
    let q : Place = record { core = (reply_at p e fate).core; disk = disk_after p e fate } in
    placed_still w (acts w i e fate (Some p)) q refl

again_still : (w : World) (i now number : ℕ) (o : Option Place) → AreStill w (again w i now number o)
again_still w i now number None = λ j. refl
again_still w i now number (Some p) =
    let q : Place = record { core = core_again p now number; disk = restored p.disk number } in
    cond_both (may_hold (held_by p.disk) number) (reopened_world w i p now number) w (AreStill w) (λ _. placed_still w (reopened_world w i p now number) q refl) (λ _ j. refl)

torn_still : (w : World) (i now number : ℕ) (o : Option Place) (asked : Option ℕ) → AreStill w (torn_world w i now number o asked)
torn_still w i now number None asked = λ j. refl
torn_still w i now number (Some p) None = λ j. refl
torn_still w i now number (Some p) (Some s) = again_still w i now number (Some (record { core = p.core; disk = record p.disk { asked = Some s } }))

step_still : (w : World) (s : Step) → AreStill w (step w s)
step_still w (Act i e fate) = acts_still w i e fate (place_at i w.places)
step_still w (Again i now number) = again_still w i now number (place_at i w.places)
step_still w (Torn i e number) = torn_still w i (moment_in e) number (place_at i w.places) (asked_at (place_at i w.places) e)
step_still w Mark = λ j. refl

run_still : (w : World) (ss : List Step) → AreStill w (run w ss)
run_still w [] = λ j. refl
run_still w (s ∷ ss) = λ j. run_still (step w s) ss j ∙ step_still w s j

-- so the seats stay
pub seats_on : (seats : List (Option ℕ)) (w v : World) (ss : List Step) → v ≡ run w ss → AreSeats seats w.places → AreSeats seats v.places
seats_on seats w v ss ran are =
    seats_same seats w.places v.places (λ i. sym (ap (λ (u : World). seat_in u.places i) ran ∙ run_still w ss i)) are
