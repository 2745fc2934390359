-- The calls of a history that goes on.
use Rattle.std.proofs.Common.{◌≡◌, ℕ, zero, suc, List, [], ◌∷◌, ◌++◌, length, map, Option, Some, refl, sym, ap, ap₂, ◌∙◌, subst}
use Rattle.std.specs.Prelude.{slice_get}
use mathlib.Core.List.{IsPrefix}
use Rattle.xl_turns.specs.Histories.{Runs}
use Rattle.xl_core.specs.Core.{Core}
use Rattle.xl_core.specs.CoreLives.{core_after}
use Rattle.xl_store.specs.declared.entry.Entry.{Entry}
use Rattle.xl_store.specs.Entries.{reply_of, life_of, Leads}
use Rattle.xl_store.specs.Calls.{Call, calls_of, StandAt}

-- the core after a history
abbrev pub after_all : Core → List Entry → Core
after_all c es = core_after c (life_of es)

pub after_runs : (c d : Core) (es : List Entry) → Runs Leads c es d → after_all c es ≡ d
after_runs c d [] r = r
after_runs c d (e ∷ es) r = ap (λ (x : Core). after_all x es) (sym r.1.core) ∙ after_runs r.0 d es r.2

abbrev call_of : Core → Entry → Call
call_of c e = record { event = e.event; answer = (reply_of c e).answer }

pub calls_append : (c : Core) (xs ys : List Entry)
    → calls_of c (xs ++ ys) ≡ calls_of c xs ++ calls_of (after_all c xs) ys
calls_append c [] ys = refl
calls_append c (x ∷ xs) ys =
    ap (λ (cs : List Call). call_of c x ∷ cs) (calls_append (reply_of c x).core xs ys)

pub length_calls : (c : Core) (xs : List Entry) → length (calls_of c xs) ≡ length xs
length_calls c [] = refl
length_calls c (x ∷ xs) = ap suc (length_calls (reply_of c x).core xs)

-- an element that stands in a list stands there in a longer one
pub get_front : {A : Type 0} (xs ys : List A) (n : ℕ) (x : A) → slice_get xs n ≡ Some x
    → slice_get (xs ++ ys) n ≡ Some x
get_front [] ys n x e = absurd cc
get_front (a ∷ xs) ys zero x e = e
get_front (a ∷ xs) ys (suc n) x e = get_front xs ys n x e

pub get_last : {A : Type 0} (xs ys : List A) (x : A) → slice_get (xs ++ x ∷ ys) (length xs) ≡ Some x
get_last [] ys x = refl
get_last (a ∷ xs) ys x = get_last xs ys x

cons_head : {A : Type 0} (x y : A) (xs ys : List A) → x ∷ xs ≡ y ∷ ys → x ≡ y
cons_head x y xs ys e = cc

cons_tail : {A : Type 0} (x y : A) (xs ys : List A) → x ∷ xs ≡ y ∷ ys → xs ≡ ys
cons_tail x y xs ys e = cc

-- these calls stand at these places of a list
abbrev AreAt : List Call → List ℕ → List Call → Type 0
AreAt xs places calls = map (slice_get xs) places ≡ map Some calls

-- calls that stand in a history stand in each that begins with it
stand_more : (xs ys : List Call) (places : List ℕ) (calls : List Call) → AreAt xs places calls
    → AreAt (xs ++ ys) places calls
stand_more xs ys [] [] e = refl
stand_more xs ys [] (c ∷ cs) e = absurd cc
stand_more xs ys (p ∷ ps) [] e = absurd cc
stand_more xs ys (p ∷ ps) (c ∷ cs) e =
    ap₂ ◌∷◌
    (get_front xs ys p c (cons_head (slice_get xs p) (Some c) (map (slice_get xs) ps) (map Some cs) e))
    (stand_more xs ys ps cs (cons_tail (slice_get xs p) (Some c) (map (slice_get xs) ps) (map Some cs) e))

pub stand_in_longer : (start : Core) (seen longer : List Entry) (places : List ℕ) (calls : List Call)
    → IsPrefix seen longer → StandAt start seen places calls → StandAt start longer places calls
stand_in_longer start seen longer places calls p s =
    subst (λ (h : List Entry). StandAt start h places calls) p.1
    (subst (λ (cs : List Call). AreAt cs places calls) (sym (calls_append start seen p.0))
    (stand_more (calls_of start seen) (calls_of (after_all start seen) p.0) places calls s))

map_append_get : (xs : List Call) (ps qs : List ℕ)
    → map (slice_get xs) (ps ++ qs) ≡ map (slice_get xs) ps ++ map (slice_get xs) qs
map_append_get xs [] qs = refl
map_append_get xs (p ∷ ps) qs = ap (λ (l : List (Option Call)). slice_get xs p ∷ l) (map_append_get xs ps qs)

map_append_some : (xs ys : List Call) → map Some xs ++ map Some ys ≡ map Some (xs ++ ys)
map_append_some [] ys = refl
map_append_some (x ∷ xs) ys = ap (λ (l : List (Option Call)). Some x ∷ l) (map_append_some xs ys)

pub stand_both : (start : Core) (history : List Entry) (ps qs : List ℕ) (xs ys : List Call)
    → StandAt start history ps xs → StandAt start history qs ys → StandAt start history (ps ++ qs) (xs ++ ys)
stand_both start history ps qs xs ys a b =
    map_append_get (calls_of start history) ps qs ∙ ap₂ ◌++◌ a b ∙ map_append_some xs ys
