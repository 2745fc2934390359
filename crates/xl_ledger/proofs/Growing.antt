-- What stays, and what comes, as a header is added.
use Rattle.std.proofs.Common.{◌≡◌, ℕ, zero, suc, ◌<◌, ◌==◌, Bool, false, List, [], ◌∷◌, ◌++◌, length, get_or, take, Option, Some, None, refl, sym, ap, subst, ◌∙◌, arith, inl, inr}
use Rattle.std.specs.Prelude.{position, unwrap_or}
use Rattle.std.proofs.lemmas.Bool.{cases_lt}
use Rattle.std.proofs.lemmas.Bool.Decides.{nat_tests}
use Rattle.std.proofs.lemmas.List.{length-append, map_push, get_or_append_left, take-append-le, take_at}
use Rattle.std.proofs.lemmas.List.Quantifiers.{position-Some}
use Rattle.std.proofs.Math.Seq.{get_or-append_seam}
use Rattle.xl_base.specs.Ids.{same_id}
use Rattle.xl_base.specs.declared.ids.LedgerId.{LedgerId}
use Rattle.xl_ledger.specs.declared.header.Header.{Header}
use Rattle.xl_ledger.specs.Headers.{header_id}
use Rattle.xl_ledger.specs.Chains.{root_id, root_header, ids, header_at, id_at, seq_at, place_of, parent_of, above, lineage, chain, Joins, AreLedgers}
use Rattle.xl_ledger.proofs.Places.{position_is}
use Rattle.xl_ledger.proofs.ChainLaws.{unless, length-ids, parent_known, parent_of_known, above_is, seq_of_root}

pub position-append : {X : Type 0} (p : X → Bool) (xs ys : List X) (i : ℕ) (d : X) → position p xs ≡ Some i → position p (xs ++ ys) ≡ Some i
position-append p xs ys i d e =
    let at = position-Some p xs i d e in
    position_is p (xs ++ ys) i d (omega (arith, at.0, length-append xs ys)) (ap p (get_or_append_left xs ys d i at.0) ∙ at.1)
    (λ k lt. ap p (get_or_append_left xs ys d k (omega (arith, at.0))) ∙ at.2 k lt)

module _ (ls : List Header) (h : Header) (some : 0 < length ls) where
  ids-added : (hs : List Header) → 0 < length hs → ids (hs ++ h ∷ []) ≡ ids hs ++ header_id h ∷ []
  ids-added [] s = absurd (omega arith)
  ids-added (r ∷ hs) s = ap (λ (x : List LedgerId). root_id ∷ x) (map_push header_id hs h)

  pub ids-more : ids (ls ++ h ∷ []) ≡ ids ls ++ header_id h ∷ []
  ids-more = ids-added ls some

  pub header_at-more : (place : ℕ) → place < length ls → header_at (ls ++ h ∷ []) place ≡ header_at ls place
  header_at-more place lt = get_or_append_left ls (h ∷ []) root_header place lt

  pub header_at-new : header_at (ls ++ h ∷ []) (length ls) ≡ h
  header_at-new = get_or-append_seam ls h [] root_header

  pub id_at-more : (place : ℕ) → place < length ls → id_at (ls ++ h ∷ []) place ≡ id_at ls place
  id_at-more place lt = ap (λ (x : List LedgerId). get_or x place root_id) ids-more ∙ get_or_append_left (ids ls) (header_id h ∷ []) root_id place (omega (arith, length-ids ls))

  pub id_at-new : id_at (ls ++ h ∷ []) (length ls) ≡ header_id h
  id_at-new =
      ap (λ (x : List LedgerId). get_or x (length ls) root_id) ids-more ∙ ap (λ (n : ℕ). get_or (ids ls ++ header_id h ∷ []) n root_id) (sym (length-ids ls))
      ∙ get_or-append_seam (ids ls) (header_id h) [] root_id

  -- a known id keeps its ledger
  pub place_of-more : (id : LedgerId) (p : ℕ) → place_of ls id ≡ Some p → place_of (ls ++ h ∷ []) id ≡ Some p
  place_of-more id p e = ap (position (same_id id)) ids-more ∙ position-append (same_id id) (ids ls) (header_id h ∷ []) p root_id e

module _ (ls : List Header) (ok : AreLedgers ls) (h : Header) where
  -- a known ledger keeps its parent
  pub parent_of-more : (place p : ℕ) → 0 < place → place < length ls → parent_of ls place ≡ Some p → parent_of (ls ++ h ∷ []) place ≡ Some p
  parent_of-more place p some lt e =
      let other : (place == 0) ≡ false = grind (arith, nat_tests) in
      let found : place_of ls (header_at ls place).parent ≡ Some p = sym (unless (place == 0) None (place_of ls (header_at ls place).parent) other) ∙ e in
      unless (place == 0) None (place_of (ls ++ h ∷ []) (header_at (ls ++ h ∷ []) place).parent) other
      ∙ ap (λ (x : Header). place_of (ls ++ h ∷ []) x.parent) (header_at-more ls h ok.some place lt) ∙ place_of-more ls h ok.some (header_at ls place).parent p found

  above-more : (place : ℕ) → place < length ls → above (ls ++ h ∷ []) place ≡ above ls place
  above-more zero lt = refl
  above-more (suc place) lt =
      let has = parent_known ls ok (suc place) (omega arith) lt in
      let is = parent_of_known ls ok (suc place) has.0 (omega arith) has.1 in
      ap (λ (o : Option ℕ). unwrap_or o 0) (parent_of-more (suc place) has.0 (omega arith) lt is ∙ sym is)

  lineage-more : (n place : ℕ) → place < length ls → seq_at ls place ≡ n → lineage (ls ++ h ∷ []) n place ≡ lineage ls n place
  lineage-more zero place lt e = refl
  lineage-more (suc n) zero lt e = absurd (omega (arith, seq_of_root ls ok))
  lineage-more (suc n) (suc place) lt e =
      let has = parent_known ls ok (suc place) (omega arith) lt in
      let up = above_is ls ok (suc place) has.0 (omega arith) has.1 in
      ap (λ (q : ℕ). lineage (ls ++ h ∷ []) n q ++ suc place ∷ []) (above-more (suc place) lt ∙ up)
      ∙ ap (λ (xs : List ℕ). xs ++ suc place ∷ []) (lineage-more n has.0 (omega (arith, has.1.earlier)) (omega (arith, has.1.next)))
      ∙ ap (λ (q : ℕ). lineage ls n q ++ suc place ∷ []) (sym up)

  -- a known ledger keeps its sequence and its chain
  pub seq_at-more : (place : ℕ) → place < length ls → seq_at (ls ++ h ∷ []) place ≡ seq_at ls place
  seq_at-more place lt = ap (λ (x : Header). x.seq) (header_at-more ls h ok.some place lt)

  pub chain-more : (place : ℕ) → place < length ls → chain (ls ++ h ∷ []) place ≡ chain ls place
  chain-more place lt = ap (λ (n : ℕ). lineage (ls ++ h ∷ []) n place) (seq_at-more place lt) ∙ lineage-more (seq_at ls place) place lt refl

  -- ledgers stay such as one is added
  pub AreLedgers-more : Joins ls h → AreLedgers (ls ++ h ∷ [])
  AreLedgers-more joins = record {
    some = omega (arith, length-append ls (h ∷ []));
    root = header_at-more ls h ok.some 0 ok.some ∙ ok.root;
    each = λ place some within. elim (cases_lt place (length ls)) [
      | inl lt ↦
          let same : take place (ls ++ h ∷ []) ≡ take place ls = take-append-le place ls (h ∷ []) (omega arith) in
          subst (λ (x : Header). Joins (take place (ls ++ h ∷ [])) x) (sym (header_at-more ls h ok.some place lt)) (subst (λ (x : List Header). Joins x (header_at ls place)) (sym same) (ok.each place some lt))
      | inr ge ↦
          let last : length ls ≡ place = omega (arith, length-append ls (h ∷ [])) in
          let new : Joins (take (length ls) (ls ++ h ∷ [])) (header_at (ls ++ h ∷ []) (length ls)) =
          subst (λ (x : Header). Joins (take (length ls) (ls ++ h ∷ [])) x) (sym (header_at-new ls h ok.some)) (subst (λ (x : List Header). Joins x h) (sym (take_at ls (h ∷ []) (length ls) refl)) joins) in
          subst (λ (n : ℕ). Joins (take n (ls ++ h ∷ [])) (header_at (ls ++ h ∷ []) n)) last new
    ];
  }
