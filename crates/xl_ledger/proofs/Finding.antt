-- What stands in a list, and what is found there.
use Rattle.std.proofs.Common.{◌≡◌, ℕ, zero, suc, ◌<◌, ◌==◌, ◌||◌, Bool, true, false, cond, List, [], ◌∷◌, Option, Some, None, slice_get, refl, sym, ap, subst, ◌∙◌, arith}
use Rattle.std.specs.Prelude.{find, filter, ◌&&◌}
use Rattle.std.specs.List.{list_any, list_all}
use Rattle.std.proofs.lemmas.Bool.{eqb-true, eq-eqb}
use Rattle.xl_ledger.specs.Votes.{follows}

pub false_if : (b : Bool) → (b ≡ true → ⊥) → b ≡ false
false_if true h = absurd (h refl)
false_if false h = refl

pub some_is : {X : Type 0} (a b : X) → Some a ≡ Some b → a ≡ b
some_is a b e = cc

pub follows_is : (o : Option ℕ) (x : ℕ) → follows o x ≡ true → o ≡ Some x
follows_is None x e = absurd cc
follows_is (Some p) x e = ap Some (eqb-true p x e)

pub follows_some : (o : Option ℕ) (x : ℕ) → o ≡ Some x → follows o x ≡ true
follows_some None x e = absurd cc
follows_some (Some p) x e = eq-eqb p x (some_is p x e)

module _ {X : Type 0} (p : X → Bool) where
  cond_true : (b : Bool) (x y : Option X) → b ≡ true → cond b x y ≡ x
  cond_true true x y e = refl
  cond_true false x y e = absurd cc

  cond_false : (b : Bool) (x y : Option X) → b ≡ false → cond b x y ≡ y
  cond_false true x y e = absurd cc
  cond_false false x y e = refl

  pub find_is : (xs : List X) (s : ℕ) (c : X) → slice_get xs s ≡ Some c → p c ≡ true → ((i : ℕ) (x : X) → i < s → slice_get xs i ≡ Some x → p x ≡ false) → find p xs ≡ Some c
  find_is [] s c at passes before = absurd cc
  find_is (x ∷ xs) zero c at passes before = let same : x ≡ c = cc in cond_true (p x) (Some x) (find p xs) (ap p same ∙ passes) ∙ ap Some same
  find_is (x ∷ xs) (suc s) c at passes before = cond_false (p x) (Some x) (find p xs) (before 0 x (omega arith) refl) ∙ find_is xs s c at passes (λ i y lt e. before (suc i) y (omega arith) e)

  pub find_none : (xs : List X) → ((i : ℕ) (x : X) → slice_get xs i ≡ Some x → p x ≡ false) → find p xs ≡ None
  find_none [] fails = refl
  find_none (x ∷ xs) fails = cond_false (p x) (Some x) (find p xs) (fails 0 x refl) ∙ find_none xs (λ i y e. fails (suc i) y e)

  pub record IsFound (xs : List X) (c : X) : Type 0 where
    pub at : ℕ
    pub stands : slice_get xs at ≡ Some c
    pub passes : p c ≡ true

  found_in : (x : X) (xs : List X) (c : X) (b : Bool) → p x ≡ b → (find p xs ≡ Some c → IsFound xs c) → find p (x ∷ xs) ≡ Some c → IsFound (x ∷ xs) c
  found_in x xs c true is later e = let same : x ≡ c = some_is x c (sym (cond_true (p x) (Some x) (find p xs) is) ∙ e) in record { at = 0; stands = ap Some same; passes = ap p (sym same) ∙ is }
  found_in x xs c false is later e = let there : IsFound xs c = later (sym (cond_false (p x) (Some x) (find p xs) is) ∙ e) in record { at = suc there.at; stands = there.stands; passes = there.passes }

  pub find_found : (xs : List X) (c : X) → find p xs ≡ Some c → IsFound xs c
  find_found [] c e = absurd cc
  find_found (x ∷ xs) c e = found_in x xs c (p x) refl (λ h. find_found xs c h) e

  -- the one that passes
  only_in : (x : X) (xs : List X) (s : ℕ) (c : X) (b : Bool) → p x ≡ b → slice_get (x ∷ xs) s ≡ Some c → p c ≡ true → (p x ≡ true → x ≡ c) → ((t : ℕ) → slice_get xs t ≡ Some c → find p xs ≡ Some c) → find p (x ∷ xs) ≡ Some c
  only_in x xs s c true is at passes here later = cond_true (p x) (Some x) (find p xs) is ∙ ap Some (here is)
  only_in x xs zero c false is at passes here later = let same : x ≡ c = some_is x c at in absurd (let t : p x ≡ true = ap p same ∙ passes in cc)
  only_in x xs (suc s) c false is at passes here later = cond_false (p x) (Some x) (find p xs) is ∙ later s at

  pub find_only : (xs : List X) (s : ℕ) (c : X) → slice_get xs s ≡ Some c → p c ≡ true → ((i : ℕ) (x : X) → slice_get xs i ≡ Some x → p x ≡ true → x ≡ c) → find p xs ≡ Some c
  find_only [] s c at passes only = absurd cc
  find_only (x ∷ xs) s c at passes only = only_in x xs s c (p x) refl at passes (λ h. only 0 x refl h) (λ t e. find_only xs t c e passes (λ i y f q. only (suc i) y f q))

  -- each element passes
  pub all_if : (xs : List X) → ((i : ℕ) (x : X) → slice_get xs i ≡ Some x → p x ≡ true) → list_all p xs ≡ true
  all_if [] h = refl
  all_if (x ∷ xs) h = both (p x) (list_all p xs) (h 0 x refl) (all_if xs (λ i y e. h (suc i) y e))
    where
      both : (a b : Bool) → a ≡ true → b ≡ true → (a && b) ≡ true
      both true b e f = f
      both false b e f = absurd cc

  pub all_at : (xs : List X) (i : ℕ) (x : X) → list_all p xs ≡ true → slice_get xs i ≡ Some x → p x ≡ true
  all_at [] i x h e = absurd cc
  all_at (y ∷ xs) zero x h e = let same : y ≡ x = some_is y x e in ap p (sym same) ∙ first (p y) (list_all p xs) h
    where
      first : (a b : Bool) → (a && b) ≡ true → a ≡ true
      first true b e = refl
      first false b e = absurd cc
  all_at (y ∷ xs) (suc i) x h e = all_at xs i x (second (p y) (list_all p xs) h) e
    where
      second : (a b : Bool) → (a && b) ≡ true → b ≡ true
      second true b e = e
      second false b e = absurd cc

  -- what a filter keeps
  pub record IsKept (xs : List X) (c : X) : Type 0 where
    pub at : ℕ
    pub stands : slice_get xs at ≡ Some c

  kept_in : (x : X) (xs : List X) (c : X) (b : Bool) (i : ℕ) → p x ≡ b → slice_get (cond (p x) (x ∷ filter p xs) (filter p xs)) i ≡ Some c → ((t : ℕ) → slice_get (filter p xs) t ≡ Some c → IsFound xs c) → IsFound (x ∷ xs) c
  kept_in x xs c true zero is e later = let same : x ≡ c = some_is x c (ap (λ (b : Bool). slice_get (cond b (x ∷ filter p xs) (filter p xs)) 0) (sym is) ∙ e) in record { at = 0; stands = ap Some same; passes = ap p (sym same) ∙ is }
  kept_in x xs c true (suc i) is e later = let there : IsFound xs c = later i (ap (λ (b : Bool). slice_get (cond b (x ∷ filter p xs) (filter p xs)) (suc i)) (sym is) ∙ e) in record { at = suc there.at; stands = there.stands; passes = there.passes }
  kept_in x xs c false i is e later = let there : IsFound xs c = later i (ap (λ (b : Bool). slice_get (cond b (x ∷ filter p xs) (filter p xs)) i) (sym is) ∙ e) in record { at = suc there.at; stands = there.stands; passes = there.passes }

  pub of_filter : (xs : List X) (i : ℕ) (c : X) → slice_get (filter p xs) i ≡ Some c → IsFound xs c
  of_filter [] i c e = absurd cc
  of_filter (x ∷ xs) i c e = kept_in x xs c (p x) i refl e (λ t f. of_filter xs t c f)

  pub in_filter : (xs : List X) (j : ℕ) (c : X) → slice_get xs j ≡ Some c → p c ≡ true → IsKept (filter p xs) c
  in_filter [] j c e passes = absurd cc
  in_filter (x ∷ xs) zero c e passes = let same : x ≡ c = some_is x c e in subst (λ (b : Bool). IsKept (cond b (x ∷ filter p xs) (filter p xs)) c) (sym passes ∙ ap p (sym same)) (record { at = 0; stands = ap Some same })
  in_filter (x ∷ xs) (suc j) c e passes = behind (p x) (in_filter xs j c e passes)
    where
      behind : (b : Bool) → IsKept (filter p xs) c → IsKept (cond b (x ∷ filter p xs) (filter p xs)) c
      behind true k = record { at = suc k.at; stands = k.stands }
      behind false k = k

-- a number that stands in a list
pub record Stands (xs : List ℕ) (c : ℕ) : Type 0 where
  pub at : ℕ
  pub is : slice_get xs at ≡ Some c

stands_in : (x : ℕ) (xs : List ℕ) (c : ℕ) (b : Bool) → (x == c) ≡ b → (list_any (λ y. y == c) xs ≡ true → Stands xs c) → ((x == c) || list_any (λ y. y == c) xs) ≡ true → Stands (x ∷ xs) c
stands_in x xs c true is later e = record { at = 0; is = ap Some (eqb-true x c is) }
stands_in x xs c false is later e = let there : Stands xs c = later (ap (λ (b : Bool). b || list_any (λ y. y == c) xs) (sym is) ∙ e) in record { at = suc there.at; is = there.is }

pub stands_if : (xs : List ℕ) (c : ℕ) → list_any (λ x. x == c) xs ≡ true → Stands xs c
stands_if [] c e = absurd cc
stands_if (x ∷ xs) c e = stands_in x xs c (x == c) refl (λ h. stands_if xs c h) e

pub any_if : (xs : List ℕ) (c s : ℕ) → slice_get xs s ≡ Some c → list_any (λ x. x == c) xs ≡ true
any_if [] c s e = absurd cc
any_if (x ∷ xs) c zero e = ap (λ (b : Bool). b || list_any (λ x. x == c) xs) (eq-eqb x c (some_is x c e))
any_if (x ∷ xs) c (suc s) e = either (x == c) (list_any (λ x. x == c) xs) (any_if xs c s e)
  where
    either : (b t : Bool) → t ≡ true → (b || t) ≡ true
    either true t e = refl
    either false t e = e
