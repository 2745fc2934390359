-- What holds of ledgers and of their chains.
use Rattle.std.proofs.Common.{◌≡◌, ℕ, zero, suc, ◌+◌, ◌<◌, ◌≤◌, ◌==◌, Bool, true, false, cond, List, [], ◌∷◌, ◌++◌, length, get_or, take, Option, Some, None, slice_get, refl, sym, ap, subst, ◌∙◌, arith, inl, inr}
use Rattle.std.specs.Prelude.{unwrap_or}
use Rattle.std.specs.List.{take-map}
use Rattle.std.proofs.lemmas.Bool.{cases_lt, eq-eqb}
use Rattle.std.proofs.lemmas.Bool.Decides.{nat_tests}
use Rattle.std.proofs.lemmas.List.{length-append, length-map, length-take, get_or-take, get_or-map}
use Rattle.std.proofs.lemmas.List.Quantifiers.{position-Some}
use Rattle.xl_base.specs.Ids.{same_id}
use Rattle.xl_base.specs.declared.ids.LedgerId.{LedgerId}
use Rattle.xl_ledger.specs.declared.header.Header.{Header}
use Rattle.xl_ledger.specs.Headers.{header_id}
use Rattle.xl_ledger.specs.Chains.{root_id, root_header, ids, header_at, id_at, seq_at, place_of, parent_of, above, lineage, chain, last_common, common_of, AreLedgers}
use Rattle.xl_ledger.proofs.Places.{position_is, none_at, slice_get-front, slice_get-seam}

pub unless : {X : Type 0} (b : Bool) (x y : X) → b ≡ false → cond b x y ≡ y
unless true x y e = absurd cc
unless false x y e = refl

-- ---- ids

pub length-ids : (ls : List Header) → length (ids ls) ≡ length ls
length-ids [] = refl
length-ids (r ∷ ls) = ap suc (length-map ls header_id)

pub ids-take : (ls : List Header) (n : ℕ) → ids (take n ls) ≡ take n (ids ls)
ids-take [] zero = refl
ids-take [] (suc n) = refl
ids-take (r ∷ ls) zero = refl
ids-take (r ∷ ls) (suc n) = ap (λ (x : List LedgerId). root_id ∷ x) (sym (take-map header_id n ls))

pub id_at-take : (ls : List Header) (n k : ℕ) → k < n → id_at (take n ls) k ≡ id_at ls k
id_at-take ls n k lt = ap (λ (x : List LedgerId). get_or x k root_id) (ids-take ls n) ∙ get_or-take n (ids ls) k root_id lt

pub header_at-take : (ls : List Header) (n k : ℕ) → k < n → header_at (take n ls) k ≡ header_at ls k
header_at-take ls n k lt = get_or-take n ls k root_header lt

-- the id of a ledger that was added is its header's
pub id_of_added : (ls : List Header) (place : ℕ) → 0 < place → place < length ls → id_at ls place ≡ header_id (header_at ls place)
id_of_added [] place some lt = absurd (omega arith)
id_of_added (r ∷ ls) zero some lt = absurd (omega arith)
id_of_added (r ∷ ls) (suc place) some lt = get_or-map header_id ls place root_header root_id (omega arith)

-- ---- ledgers that are known

module _ (ls : List Header) (ok : AreLedgers ls) where
  pub seq_of_root : seq_at ls 0 ≡ 0
  seq_of_root = ap (λ (h : Header). h.seq) ok.root

  -- no earlier ledger has the id of a later one
  pub earlier_differs : (i j : ℕ) → i < j → j < length ls → same_id (id_at ls j) (id_at ls i) ≡ false
  earlier_differs i j lt within =
      let joins = ok.each j (omega arith) within in
      let none = none_at (same_id (header_id (header_at ls j))) (ids (take j ls)) root_id joins.fresh i (omega (arith, length-ids (take j ls), length-take j ls)) in
      let here : get_or (ids (take j ls)) i root_id ≡ id_at ls i = id_at-take ls j i lt in
      let own : id_at ls j ≡ header_id (header_at ls j) = id_of_added ls j (omega arith) within in
      ap (λ (x : LedgerId). same_id x (id_at ls i)) own ∙ ap (λ (x : LedgerId). same_id (header_id (header_at ls j)) x) (sym here) ∙ none

  -- the parent of a ledger that isn't the root
  pub record HasParent (place p : ℕ) : Type 0 where
    pub earlier : p < place
    pub found : place_of ls (header_at ls place).parent ≡ Some p
    pub next : seq_at ls place ≡ seq_at ls p + 1

  pub parent_known : (place : ℕ) → 0 < place → place < length ls → (p : ℕ) × HasParent place p
  parent_known place some within =
      let joins = ok.each place some within in
      let test = same_id (header_at ls place).parent in
      let at = position-Some test (ids (take place ls)) joins.parent root_id joins.follows in
      let lt : joins.parent < place = omega (arith, at.0, length-ids (take place ls), length-take place ls) in
      let here : (k : ℕ) → k < place → get_or (ids (take place ls)) k root_id ≡ id_at ls k = λ k l. id_at-take ls place k l in (
        joins.parent,
        record {
          earlier = lt;
          found = position_is test (ids ls) joins.parent root_id (omega (arith, length-ids ls)) (ap test (sym (here joins.parent lt)) ∙ at.1)
              (λ k l. ap test (sym (here k (omega arith))) ∙ at.2 k l);
          next = joins.next ∙ ap (λ (h : Header). h.seq + 1) (header_at-take ls place joins.parent lt);
        },
      )

  parent_if : (place p : ℕ) → 0 < place → place_of ls (header_at ls place).parent ≡ Some p → parent_of ls place ≡ Some p
  parent_if place p some e = unless (place == 0) None (place_of ls (header_at ls place).parent) (grind (arith, nat_tests)) ∙ e

  pub parent_of_known : (place p : ℕ) → 0 < place → HasParent place p → parent_of ls place ≡ Some p
  parent_of_known place p some has = parent_if place p some has.found

  pub above_is : (place p : ℕ) → 0 < place → HasParent place p → above ls place ≡ p
  above_is place p some has = ap (λ (o : Option ℕ). unwrap_or o 0) (parent_of_known place p some has)

  pub above_le : (place : ℕ) → place < length ls → above ls place ≤ place
  above_le zero within = omega arith
  above_le (suc place) within = let has = parent_known (suc place) (omega arith) within in omega (arith, above_is (suc place) has.0 (omega arith) has.1, has.1.earlier)

  -- only the root has sequence 0
  pub seq_of_added : (place : ℕ) → 0 < place → place < length ls → 0 < seq_at ls place
  seq_of_added place some within = let has = parent_known place some within in omega (arith, has.1.next)

  -- ---- chains

  pub chain_of_root : chain ls 0 ≡ 0 ∷ []
  chain_of_root = ap (λ (n : ℕ). lineage ls n 0) seq_of_root

  pub chain_more : (place p : ℕ) → 0 < place → HasParent place p → chain ls place ≡ chain ls p ++ place ∷ []
  chain_more place p some has =
      let one : seq_at ls place ≡ suc (seq_at ls p) = omega (arith, has.next) in
      ap (λ (n : ℕ). lineage ls n place) one ∙ ap (λ (q : ℕ). lineage ls (seq_at ls p) q ++ place ∷ []) (above_is place p some has)

pub length-lineage : (ls : List Header) (n place : ℕ) → length (lineage ls n place) ≡ n + 1
length-lineage ls zero place = refl
length-lineage ls (suc n) place = length-append (lineage ls n (above ls place)) (place ∷ []) ∙ omega (arith, length-lineage ls n (above ls place))

pub length-chain : (ls : List Header) (place : ℕ) → length (chain ls place) ≡ seq_at ls place + 1
length-chain ls place = length-lineage ls (seq_at ls place) place

pub lineage_ends : (ls : List Header) (n place : ℕ) → slice_get (lineage ls n place) n ≡ Some place
lineage_ends ls zero place = refl
lineage_ends ls (suc n) place = slice_get-seam (lineage ls n (above ls place)) place (suc n) (omega (arith, length-lineage ls n (above ls place)))

-- a chain ends with its ledger
pub chain_ends : (ls : List Header) (place : ℕ) → slice_get (chain ls place) (seq_at ls place) ≡ Some place
chain_ends ls place = lineage_ends ls (seq_at ls place) place

module _ (ls : List Header) (ok : AreLedgers ls) where
  -- what stands at a place of a chain is a known ledger of that sequence, and no later one
  pub record IsAt (place s x : ℕ) : Type 0 where
    pub seq : seq_at ls x ≡ s
    pub known : x < length ls
    pub earlier : x ≤ place

  of_lineage : (n place : ℕ) → place < length ls → seq_at ls place ≡ n → (s x : ℕ) → slice_get (lineage ls n place) s ≡ Some x → IsAt place s x
  of_lineage zero place within e zero x at =
      let same : place ≡ x = cc in
      record { seq = subst (λ (y : ℕ). seq_at ls y ≡ 0) same e; known = omega arith; earlier = omega arith }
  of_lineage zero place within e (suc s) x at = absurd cc
  of_lineage (suc n) zero within e s x at = absurd (omega (arith, seq_of_root ls ok))
  of_lineage (suc n) (suc place) within e s x at =
      let has = parent_known ls ok (suc place) (omega arith) within in
      let up = above_is ls ok (suc place) has.0 (omega arith) has.1 in
      let long = length-lineage ls n (above ls (suc place)) in
      elim (cases_lt s (suc n)) [
        | inl lt ↦
            let inside : slice_get (lineage ls n (above ls (suc place))) s ≡ Some x = sym (slice_get-front (lineage ls n (above ls (suc place))) (suc place ∷ []) s (omega arith)) ∙ at in
            let there : IsAt has.0 s x = of_lineage n has.0 (omega (arith, has.1.earlier)) (omega (arith, has.1.next)) s x (ap (λ (q : ℕ). slice_get (lineage ls n q) s) (sym up) ∙ inside) in
            record { seq = there.seq; known = there.known; earlier = omega (arith, there.earlier, has.1.earlier) }
        | inr ge ↦
            elim (cases_lt (suc n) s) [
              | inl gt ↦ absurd (past (lineage ls n (above ls (suc place)) ++ suc place ∷ []) s x (omega (arith, length-append (lineage ls n (above ls (suc place))) (suc place ∷ []))) at)
              | inr le ↦
                  let last : s ≡ suc n = omega arith in
                  let same : suc place ≡ x = some_is (suc place) x (sym (slice_get-seam (lineage ls n (above ls (suc place))) (suc place) s (omega arith)) ∙ at) in
                  record { seq = ap (seq_at ls) (sym same) ∙ e ∙ sym last; known = omega arith; earlier = omega arith }
            ]
      ]
    where
      some_is : (a b : ℕ) → Some a ≡ Some b → a ≡ b
      some_is a b e = cc

      past : (xs : List ℕ) (s x : ℕ) → length xs ≤ s → slice_get xs s ≡ Some x → ⊥
      past [] s x le at = cc
      past (y ∷ xs) zero x le at = omega arith
      past (y ∷ xs) (suc s) x le at = past xs s x (omega arith) at

  pub of_chain : (place : ℕ) → place < length ls → (s x : ℕ) → slice_get (chain ls place) s ≡ Some x → IsAt place s x
  of_chain place within s x at = of_lineage (seq_at ls place) place within refl s x at

-- ---- the last common ledger

-- of a list and itself it is the last element
pub last_common-same : (last a i : ℕ) (xs : List ℕ) → slice_get xs i ≡ Some a → length xs ≡ i + 1 → last_common last xs xs ≡ a
last_common-same last a i [] at long = absurd cc
last_common-same last a zero (x ∷ []) at long = let same : x ≡ a = cc in rw (eq-eqb x x refl) same
last_common-same last a zero (x ∷ y ∷ xs) at long = absurd (omega arith)
last_common-same last a (suc i) (x ∷ xs) at long = rw (eq-eqb x x refl) (last_common-same x a i xs at (omega arith))

pub common_same : (ls : List Header) (a : ℕ) → common_of ls a a ≡ a
common_same ls a = last_common-same 0 a (seq_at ls a) (chain ls a) (chain_ends ls a) (length-chain ls a)
