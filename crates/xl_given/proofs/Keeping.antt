-- The first givers of the frames so far, and of one more.
use Rattle.std.proofs.Common.{◌≡◌, ℕ, ◌+◌, Bor, Bool, true, false, cond, List, [], ◌∷◌, ◌++◌, Option, Some, None, BTreeMap, refl, ap, sym, ◌∙◌, take, get_or, arith, inl, inr}
use Rattle.std.specs.Prelude.{◌==◌, ◌&&◌, count_by, is_some, nat_lt, option_map, slice_get, unwrap_or}
use Rattle.std.specs.BTreeMap.{get, is_at, IsEmpty, Updates}
use Rattle.std.specs.Cmp.{tied_then}
use Rattle.std.specs.Cmp.Lexicographic.{slice_cmp}
use Rattle.std.specs.Map.{lookup}
use Rattle.std.specs.Option.{option_or}
use Rattle.std.specs.Ordering.{is_eq, nat_cmp}
use Rattle.std.specs.Str.{bytes_eq}
use Rattle.std.specs.declared.cmp.Ordering.TheVariants.{Less, Equal, Greater}
use Rattle.std.proofs.lemmas.Bool.{and_parts, cases_Bool, eqb-true, ltb-true, ne_eqb}
use Rattle.std.proofs.lemmas.List.{take_more}
use Rattle.std.proofs.lemmas.List.Folds.{find-append}
use Rattle.std.proofs.lemmas.List.Sums.{count_by_more_no, count_by_more_yes}
use Rattle.std.proofs.lemmas.Map.Text.{is_eq-slice_cmp}
use Rattle.std.proofs.lemmas.Option.{get_or_from_slice_get, slice_get_within}
use Rattle.std.proofs.lemmas.Slice.Eq.{bytes_eq-Decides}
use Rattle.xl_given.specs.Given.{Noted, count_given, giver_of, is_frame_of, is_given}
use Rattle.xl_given.specs.Kept.{IsKept, by_both, giver_seen}
use Rattle.xl_given.specs.declared.givers.Giver.{Giver}

pub next_taken : (xs : List Noted) (i : ℕ) (x : Noted) → slice_get xs i ≡ Some x → take (i + 1) xs ≡ take i xs ++ x ∷ []
next_taken xs i x is =
    take_more xs i x (slice_get_within xs i x is) ∙ ap (λ y. take i xs ++ y ∷ []) (get_or_from_slice_get xs i x x is)

pub count_next : (p : Noted → Bool) (xs : List Noted) (i : ℕ) (x : Noted) → slice_get xs i ≡ Some x
    → count_by p (take (i + 1) xs) ≡ count_by p (take i xs) + cond (p x) 1 0
count_next p xs i x is = by (p x) refl
  where
    there : get_or xs i x ≡ x
    there = get_or_from_slice_get xs i x x is

    by : (b : Bool) → p x ≡ b → count_by p (take (i + 1) xs) ≡ count_by p (take i xs) + cond b 1 0
    by true hit = count_by_more_yes p xs i x (slice_get_within xs i x is) (ap p there ∙ hit)
    by false miss = count_by_more_no p xs i x (slice_get_within xs i x is) (ap p there ∙ miss) ∙ omega arith

-- two keys are one if their members and their frames are
equal_is : (b : Bool) → is_eq (cond b Equal Greater) ≡ b
equal_is true = refl
equal_is false = refl

pub is_eq-nat : (a b : ℕ) → is_eq (nat_cmp a b) ≡ (a == b)
is_eq-nat a b =
    elim (cases_Bool (nat_lt a b)) [
      | inl less ↦ ap (λ x. is_eq (cond x Less (cond (a == b) Equal Greater))) less ∙ sym (ne_eqb a b (λ e. omega (arith, ltb-true a b less)))
      | inr other ↦ ap (λ x. is_eq (cond x Less (cond (a == b) Equal Greater))) other ∙ equal_is (a == b)
    ]

at_parts : (a k : ℕ × Bor (List ℕ)) → is_at (by_both a) k ≡ (a.0 == k.0 && bytes_eq a.1.now k.1.now)
at_parts a k =
    sym (tied_then (nat_cmp a.0 k.0) (slice_cmp nat_cmp a.1.now k.1.now))
    ∙ (ap (λ b. b && is_eq (slice_cmp nat_cmp a.1.now k.1.now)) (is_eq-nat a.0 k.0)
    ∙ ap (λ b. a.0 == k.0 && b) (is_eq-slice_cmp a.1.now k.1.now))

pub none_kept : (givers : BTreeMap (ℕ × Bor (List ℕ)) Giver) → IsEmpty givers → IsKept givers []
none_kept givers empty m frame = ap (lookup (is_at (by_both (m, frame)))) empty

first_stays : (o : Option Noted) (x : Noted) → Some (unwrap_or (option_map giver_seen o) (giver_seen x)) ≡ option_map giver_seen (option_or o (Some x))
first_stays None x = refl
first_stays (Some y) x = refl

or_none : (o : Option Noted) → option_or o None ≡ o
or_none None = refl
or_none (Some y) = refl

-- the giver of the next frame is kept, unless there is an earlier one
pub kept_next : (given : List Noted) (i : ℕ) (x : Noted) (givers givers' : BTreeMap (ℕ × Bor (List ℕ)) Giver)
    (frame : Bor (List ℕ)) (giver : Giver) → slice_get given i ≡ Some x → frame.now ≡ x.frame → IsKept givers (take i given)
    → giver ≡ unwrap_or (get by_both givers (x.member, frame)) (giver_seen x)
    → Updates by_both givers givers' (x.member, frame) (Some giver) → IsKept givers' (take (i + 1) given)
kept_next given i x givers givers' frame giver is bytes kept first updates m f =
    updates.0 (m, f)
    ∙ (ap (λ b. cond b (Some giver) (get by_both givers (m, f))) same
    ∙ (by (is_frame_of m f.now x) refl
    ∙ ap (option_map giver_seen) (sym (ap (λ xs. giver_of xs m f.now) (next_taken given i x is)
    ∙ find-append (is_frame_of m f.now) (take i given) (x ∷ [])))))
  where
    same : is_at (by_both (x.member, frame)) (m, f) ≡ is_frame_of m f.now x
    same = at_parts (x.member, frame) (m, f) ∙ ap (λ bs. x.member == m && bytes_eq bs f.now) bytes

    there : is_frame_of m f.now x ≡ true → get by_both givers (x.member, frame) ≡ option_map giver_seen (giver_of (take i given) m f.now)
    there is_it =
        let parts = and_parts (x.member == m) (bytes_eq x.frame f.now) is_it in
        kept x.member frame
        ∙ (ap (λ k. option_map giver_seen (giver_of (take i given) k frame.now)) (eqb-true x.member m parts.0)
        ∙ ap (λ bs. option_map giver_seen (giver_of (take i given) m bs)) (bytes ∙ (bytes_eq-Decides x.frame f.now).0 parts.1))

    by : (b : Bool) → is_frame_of m f.now x ≡ b
        → cond b (Some giver) (get by_both givers (m, f)) ≡ option_map giver_seen (option_or (giver_of (take i given) m f.now) (cond b (Some x) None))
    by true is_it =
        ap Some (first ∙ ap (λ o. unwrap_or o (giver_seen x)) (there is_it)) ∙ first_stays (giver_of (take i given) m f.now) x
    by false other = kept m f ∙ ap (option_map giver_seen) (sym (or_none (giver_of (take i given) m f.now)))

-- one more frame was looked at
pub counted : (heard given : List Noted) (i : ℕ) (x : Noted) (giver : Option Giver) (was now : ℕ) → slice_get heard i ≡ Some x
    → giver ≡ option_map giver_seen (giver_of given x.member x.frame) → (b : Bool) → b ≡ is_some giver
    → now ≡ was + cond b 1 0 → was ≡ count_given given (take i heard) → now ≡ count_given given (take (i + 1) heard)
counted heard given i x giver was now is found b some more so_far =
    more
    ∙ (ap (λ n. n + cond b 1 0) so_far
    ∙ (ap (λ d. count_given given (take i heard) + cond d 1 0) (some ∙ (ap is_some found ∙ stays (giver_of given x.member x.frame)))
    ∙ sym (count_next (is_given given) heard i x is)))
  where
    stays : (o : Option Noted) → is_some (option_map giver_seen o) ≡ is_some o
    stays None = refl
    stays (Some y) = refl
