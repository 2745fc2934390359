-- Look-ups by bytes in a map whose keys are ordered by bytes.
use Rattle.std.proofs.Common.{◌≡◌, ℕ, Bool, true, false, cond, List, [], ◌∷◌, Option, Some, None, Ordering, refl, ap, sym, ◌∙◌}
use Rattle.std.specs.declared.cmp.Ordering.TheVariants.{Less, Equal, Greater}
use Rattle.std.specs.Ordering.{nat_cmp, is_eq, match_ordering}
use Rattle.std.specs.Cmp.Lexicographic.{slice_cmp}
use Rattle.std.specs.Map.{lookup, remove_entry}
use Rattle.std.specs.BTreeMap.{insert_entry}
use Rattle.std.specs.Str.{bytes_eq}
use Rattle.xl_sched.specs.Places.{with_place}
use Rattle.std.proofs.lemmas.Bool.{false≢true}
use Rattle.std.proofs.lemmas.Map.Text.{is_eq-slice_cmp}
use Rattle.std.proofs.lemmas.Slice.Eq.{bytes_eq-Decides}

-- whether a key has these bytes
abbrev pub tests : {K : Type 0} → (K → List ℕ) → List ℕ → K → Bool
tests bytes t k = is_eq (slice_cmp nat_cmp t (bytes k))

abbrev pub orders : {K : Type 0} → (K → List ℕ) → K → K → Ordering
orders bytes a b = slice_cmp nat_cmp (bytes a) (bytes b)

same_bytes : (a b : List ℕ) → is_eq (slice_cmp nat_cmp a b) ≡ true → a ≡ b
same_bytes a b e = (bytes_eq-Decides a b).0 (sym (is_eq-slice_cmp a b) ∙ e)

bytes_eq-refl : (a : List ℕ) → is_eq (slice_cmp nat_cmp a a) ≡ true
bytes_eq-refl a = is_eq-slice_cmp a a ∙ (bytes_eq-Decides a a).1 refl

once : (b : Bool) (x y z : Option ℕ) → cond b x y ≡ cond b x (cond b z y)
once true x y z = refl
once false x y z = refl

swaps : (a b : Bool) (x y z : Option ℕ) → (a ≡ true → b ≡ true → ⊥) → cond a x (cond b y z) ≡ cond b y (cond a x z)
swaps true true x y z apart = absurd (apart refl refl)
swaps true false x y z apart = refl
swaps false true x y z apart = refl
swaps false false x y z apart = refl

pub lookup-insert_entry : {K : Type 0} (bytes : K → List ℕ) (t : List ℕ) (key : K) (v : ℕ) (es : List (K × ℕ)) →
    lookup (tests bytes t) (insert_entry (orders bytes) es key v) ≡ cond (tests bytes t key) (Some v) (lookup (tests bytes t) es)
lookup-insert_entry bytes t key v [] = refl
lookup-insert_entry {K} bytes t key v (e ∷ es) =
    elim (orders bytes key e.0) as (λ o. orders bytes key e.0 ≡ o → lookup (tests bytes t) (match_ordering o ((key, v) ∷ e ∷ es) ((e.0, v) ∷ es) (e ∷ insert_entry (orders bytes) es key v)) ≡ cond (tests bytes t key) (Some v) (cond (tests bytes t e.0) (Some e.1) (lookup (tests bytes t) es))) [
      | Less ↦ λ _. refl
      | Equal ↦ λ q.
          let same = same_bytes (bytes key) (bytes e.0) (ap is_eq q) in
          let tested : tests bytes t key ≡ tests bytes t e.0 = ap (λ b. is_eq (slice_cmp nat_cmp t b)) same in
          rw tested (once (tests bytes t e.0) (Some v) (lookup (tests bytes t) es) (Some e.1))
      | Greater ↦ λ q.
          let apart : tests bytes t e.0 ≡ true → tests bytes t key ≡ true → ⊥ = λ here there.
          let same = sym (same_bytes t (bytes key) there) ∙ same_bytes t (bytes e.0) here in
          let equal : is_eq (orders bytes key e.0) ≡ true = ap (λ b. is_eq (slice_cmp nat_cmp (bytes key) b)) (sym same) ∙ bytes_eq-refl (bytes key) in
          false≢true (sym (ap is_eq q) ∙ equal) in
          ap (λ rest. cond (tests bytes t e.0) (Some e.1) rest) (lookup-insert_entry bytes t key v es) ∙ swaps (tests bytes t e.0) (tests bytes t key) (Some e.1) (Some v) (lookup (tests bytes t) es) apart
    ] refl

-- an entry that is taken out was no other key's
pub lookup-remove_entry : {K : Type 0} (bytes : K → List ℕ) (t name : List ℕ) (es : List (K × ℕ)) → bytes_eq t name ≡ false →
    lookup (tests bytes t) (remove_entry (tests bytes name) es) ≡ lookup (tests bytes t) es
lookup-remove_entry bytes t name [] apart = refl
lookup-remove_entry bytes t name (e ∷ es) apart =
    elim (tests bytes name e.0) as (λ b. tests bytes name e.0 ≡ b → lookup (tests bytes t) (cond b es (e ∷ remove_entry (tests bytes name) es)) ≡ cond (tests bytes t e.0) (Some e.1) (lookup (tests bytes t) es)) [
      | true ↦ λ q.
          let same = same_bytes name (bytes e.0) q in
          let other : tests bytes t e.0 ≡ false = ap (λ b. is_eq (slice_cmp nat_cmp t b)) (sym same) ∙ is_eq-slice_cmp t name ∙ apart in
          rw other refl
      | false ↦ λ q. ap (λ rest. cond (tests bytes t e.0) (Some e.1) rest) (lookup-remove_entry bytes t name es apart)
    ] refl

-- what a map with one entry more finds
pub looks_up-inserted : {K : Type 0} (bytes : K → List ℕ) (t name : List ℕ) (key : K) (v : ℕ) (old new : List (K × ℕ)) → bytes key ≡ name → new ≡ insert_entry (orders bytes) old key v →
    lookup (tests bytes t) new ≡ cond (bytes_eq t name) (Some v) (lookup (tests bytes t) old)
looks_up-inserted bytes t name key v old new same e =
    ap (lookup (tests bytes t)) e ∙ lookup-insert_entry bytes t key v old
    ∙ ap (λ b. cond b (Some v) (lookup (tests bytes t) old)) (is_eq-slice_cmp t (bytes key) ∙ ap (bytes_eq t) same)

Some≢None : (k : ℕ) → Some k ≡ None → ⊥
Some≢None k e = cc

-- a place for a key that had none
pub with_place-new : (kept : Option ℕ) (is_key : Bool) (place : ℕ) → (is_key ≡ true → kept ≡ None) → cond is_key (Some place) kept ≡ with_place kept is_key place
with_place-new None is_key place h = refl
with_place-new (Some k) true place h = absurd (Some≢None k (h refl))
with_place-new (Some k) false place h = refl

None≢Some : (k : ℕ) → None ≡ Some k → ⊥
None≢Some k e = cc

-- a key that had a place gets it back
pub with_place-again : (kept : Option ℕ) (is_key : Bool) (place first : ℕ) → (is_key ≡ true → kept ≡ Some first)
    → cond is_key (Some first) (cond is_key (Some place) kept) ≡ with_place kept is_key place
with_place-again None true place first h = absurd (None≢Some first (h refl))
with_place-again None false place first h = refl
with_place-again (Some k) true place first h = sym (h refl)
with_place-again (Some k) false place first h = refl

-- an id with the same bytes has the same place
pub same_too : (place_of : List ℕ → Option ℕ) (t id : List ℕ) (kept : Option ℕ) → place_of id ≡ kept → bytes_eq t id ≡ true → place_of t ≡ kept
same_too place_of t id kept h e = ap place_of ((bytes_eq-Decides t id).0 e) ∙ h

-- a name with the same bytes has no place either
pub none_too : (place_of : List ℕ → Option ℕ) (t name : List ℕ) → place_of name ≡ None → bytes_eq t name ≡ true → place_of t ≡ None
none_too place_of t name h e = ap place_of ((bytes_eq-Decides t name).0 e) ∙ h

-- a key that was inserted and removed again
pub restored : (is_key : Bool) (place : ℕ) (old inserted kept removed : Option ℕ) → inserted ≡ cond is_key (Some place) old → kept ≡ inserted → (is_key ≡ true → removed ≡ None) → (is_key ≡ false → removed ≡ kept) → (is_key ≡ true → old ≡ None) → removed ≡ old
restored true place old inserted kept removed i k absent other none = absent refl ∙ sym (none refl)
restored false place old inserted kept removed i k absent other none = other refl ∙ k ∙ i
