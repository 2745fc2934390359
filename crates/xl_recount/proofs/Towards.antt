-- The child of a ledger on the chain of another.
use Rattle.std.proofs.Common.{◌≡◌, ◌≢◌, ℕ, zero, suc, ◌+◌, ◌<◌, ◌≤◌, Bool, true, false, cond, List, [], ◌∷◌, ◌++◌, length, Option, Some, None, slice_get, refl, sym, ap, subst, ◌∙◌, arith, inl, inr}
use Rattle.std.specs.List.{AllByRecursion}
use Rattle.std.proofs.lemmas.Bool.{cases_lt}
use Rattle.std.proofs.lemmas.List.{length-append}
use Rattle.std.proofs.lemmas.List.Sums.{sum_by-cons}
use Rattle.std.proofs.lemmas.List.Elements.{recursion_from_All}
use Rattle.std.proofs.lemmas.Option.{slice_get_within}
use Rattle.xl_ledger.specs.declared.header.Header.{Header}
use Rattle.xl_ledger.specs.declared.vote.Vote.{Vote}
use Rattle.xl_ledger.specs.Chains.{seq_at, parent_of, lineage, chain, AreLedgers}
use Rattle.xl_ledger.specs.Votes.{AreKnown, follows, is_on_chain, branch_of}
use Rattle.xl_ledger.proofs.Places.{slice_get-front, slice_get-seam}
use Rattle.xl_ledger.proofs.ChainLaws.{parent_known, parent_of_known, above_is, seq_of_root, length-lineage, length-chain, lineage_ends, of_chain}
use Rattle.xl_ledger.proofs.Walking.{told_parent}
use Rattle.xl_recount.specs.Children.{towards, children_of, votes_for}
use Rattle.xl_ledger.proofs.Finding.{false_if, some_is, follows_is, follows_some, find_is, find_none, find_found, stands_if, any_if}

module _ (ls : List Header) (ok : AreLedgers ls) where
  -- what follows on a chain has what stands before it as its parent
  next_in_lineage : (n place : ℕ) → place < length ls → seq_at ls place ≡ n → (s a c : ℕ) → slice_get (lineage ls n place) s ≡ Some a → slice_get (lineage ls n place) (suc s) ≡ Some c → parent_of ls c ≡ Some a
  next_in_lineage zero place within e s a c first second = absurd cc
  next_in_lineage (suc n) zero within e s a c first second = absurd (omega (arith, seq_of_root ls ok))
  next_in_lineage (suc n) (suc place) within e s a c first second =
      let has = parent_known ls ok (suc place) (omega arith) within in
      let up = above_is ls ok (suc place) has.0 (omega arith) has.1 in
      let long = length-lineage ls n has.0 in
      let front : lineage ls (suc n) (suc place) ≡ lineage ls n has.0 ++ suc place ∷ [] = ap (λ (q : ℕ). lineage ls n q ++ suc place ∷ []) up in
      let size : length (lineage ls n has.0 ++ suc place ∷ []) ≡ suc (suc n) = omega (arith, length-append (lineage ls n has.0) (suc place ∷ [])) in
      let first' : slice_get (lineage ls n has.0 ++ suc place ∷ []) s ≡ Some a = ap (λ (xs : List ℕ). slice_get xs s) (sym front) ∙ first in
      let second' : slice_get (lineage ls n has.0 ++ suc place ∷ []) (suc s) ≡ Some c = ap (λ (xs : List ℕ). slice_get xs (suc s)) (sym front) ∙ second in
      let inside = slice_get_within (lineage ls n has.0 ++ suc place ∷ []) (suc s) c second' in
      elim (cases_lt s n) [
        | inl lt ↦ next_in_lineage n has.0 (omega (arith, has.1.earlier)) (omega (arith, has.1.next)) s a c
            (sym (slice_get-front (lineage ls n has.0) (suc place ∷ []) s (omega arith)) ∙ first')
            (sym (slice_get-front (lineage ls n has.0) (suc place ∷ []) (suc s) (omega arith)) ∙ second')
        | inr ge ↦
            let last : s ≡ n = omega arith in
            let own : suc place ≡ c = some_is (suc place) c (sym (slice_get-seam (lineage ls n has.0) (suc place) (suc s) (omega arith)) ∙ second') in
            let parent : has.0 ≡ a = some_is has.0 a (sym (lineage_ends ls n has.0) ∙ ap (slice_get (lineage ls n has.0)) (sym last) ∙ sym (slice_get-front (lineage ls n has.0) (suc place ∷ []) s (omega arith)) ∙ first') in
            subst (λ (x : ℕ). parent_of ls x ≡ Some a) own (parent_of_known ls ok (suc place) has.0 (omega arith) has.1 ∙ ap Some parent)
      ]

  next_on_chain : (to s a c : ℕ) → to < length ls → slice_get (chain ls to) s ≡ Some a → slice_get (chain ls to) (suc s) ≡ Some c → parent_of ls c ≡ Some a
  next_on_chain to s a c within first second = next_in_lineage (seq_at ls to) to within refl s a c first second

  has_no_parent : (c p : ℕ) → parent_of ls c ≡ Some p → 0 < c
  has_no_parent zero p e = absurd cc
  has_no_parent (suc c) p e = omega arith

  -- a child on a chain stands behind its parent's sequence
  pub behind : (from to i x : ℕ) → to < length ls → slice_get (chain ls to) i ≡ Some x → parent_of ls x ≡ Some from → i ≡ suc (seq_at ls from)
  behind from to i x within at e =
      let is = of_chain ls ok to within i x at in
      let has = told_parent ls ok x from (has_no_parent x from e) is.known e in
      omega (arith, is.seq, has.next)

  pub towards_low : (from to : ℕ) → to < length ls → seq_at ls to ≤ seq_at ls from → towards ls from to ≡ None
  towards_low from to within le = find_none (λ c. follows (parent_of ls c) from) (chain ls to) (λ i x at. false_if (follows (parent_of ls x) from) (λ t.
      let where_ = behind from to i x within at (follows_is (parent_of ls x) from t) in
      omega (arith, where_, slice_get_within (chain ls to) i x at, length-chain ls to)))

  pub towards_other : (from to a : ℕ) → to < length ls → slice_get (chain ls to) (seq_at ls from) ≡ Some a → a ≢ from → towards ls from to ≡ None
  towards_other from to a within first other = find_none (λ c. follows (parent_of ls c) from) (chain ls to) (λ i x at. false_if (follows (parent_of ls x) from) (λ t.
      let e = follows_is (parent_of ls x) from t in
      let there = behind from to i x within at e in
      let parent = next_on_chain to (seq_at ls from) a x within first (ap (slice_get (chain ls to)) (sym there) ∙ at) in
      other (some_is a from (sym parent ∙ e))))

  pub towards_is : (from to c : ℕ) → to < length ls → slice_get (chain ls to) (seq_at ls from) ≡ Some from → slice_get (chain ls to) (suc (seq_at ls from)) ≡ Some c → towards ls from to ≡ Some c
  towards_is from to c within first second =
      find_is (λ c. follows (parent_of ls c) from) (chain ls to) (suc (seq_at ls from)) c second (follows_some (parent_of ls c) from (next_on_chain to (seq_at ls from) from c within first second))
      (λ i x lt at. false_if (follows (parent_of ls x) from) (λ t. let there = behind from to i x within at (follows_is (parent_of ls x) from t) in omega arith))

  -- what is found is a child on the chain
  pub record IsTowards (from to c : ℕ) : Type 0 where
    pub child : parent_of ls c ≡ Some from
    pub known : c < length ls
    pub on : is_on_chain ls c to ≡ true

  pub of_towards : (from to c : ℕ) → to < length ls → towards ls from to ≡ Some c → IsTowards from to c
  of_towards from to c within e =
      let found = find_found (λ c. follows (parent_of ls c) from) (chain ls to) c e in
      record { child = follows_is (parent_of ls c) from found.passes; known = (of_chain ls ok to within found.at c found.stands).known; on = any_if (chain ls to) c found.at found.stands }

  -- a ledger below a child is one that leads to it
  pub on_chain_is : (from c to : ℕ) → parent_of ls c ≡ Some from → to < length ls → is_on_chain ls c to ≡ follows (towards ls from to) c
  on_chain_is from c to child within = by_cases (is_on_chain ls c to) refl
    where
      passes : follows (parent_of ls c) from ≡ true
      passes = follows_some (parent_of ls c) from child

      by_cases : (b : Bool) → is_on_chain ls c to ≡ b → is_on_chain ls c to ≡ follows (towards ls from to) c
      by_cases true is =
          let stands = stands_if (chain ls to) c is in
          let there = behind from to stands.at c within stands.is child in
          let found : towards ls from to ≡ Some c = find_is (λ c. follows (parent_of ls c) from) (chain ls to) stands.at c stands.is passes
          (λ i x lt at. false_if (follows (parent_of ls x) from) (λ t. let h = behind from to i x within at (follows_is (parent_of ls x) from t) in omega arith)) in
          is ∙ sym (follows_some (towards ls from to) c found)
      by_cases false is = is ∙ sym (false_if (follows (towards ls from to) c) (λ t. let h = of_towards from to c within (follows_is (towards ls from to) c t) in let e = h.on in cc))

  by_each : (votes : List Vote) (from c : ℕ) → parent_of ls c ≡ Some from → AllByRecursion (λ v. v.ledger < length ls) votes → branch_of ls votes c ≡ votes_for (children_of ls votes from) c
  by_each [] from c child known = refl
  by_each (v ∷ votes) from c child known =
      sum_by-cons (λ (x : Vote). cond (is_on_chain ls c x.ledger) 1 0) v votes
      ∙ ap (λ (b : Bool). cond b 1 0 + branch_of ls votes c) (on_chain_is from c v.ledger child known.0)
      ∙ ap (λ (n : ℕ). cond (follows (towards ls from v.ledger) c) 1 0 + n) (by_each votes from c child known.1)
      ∙ sym (sum_by-cons (λ (o : Option ℕ). cond (follows o c) 1 0) (towards ls from v.ledger) (children_of ls votes from))

  -- the votes of a child are those that lead to it
  pub branch_of_child : (votes : List Vote) (from c : ℕ) → parent_of ls c ≡ Some from → AreKnown ls votes → branch_of ls votes c ≡ votes_for (children_of ls votes from) c
  branch_of_child votes from c child known = by_each votes from c child (recursion_from_All (λ v. v.ledger < length ls) votes known)

  -- a child that is counted is the one that some vote leads to
  pub counted : (votes : List Vote) (from c : ℕ) → AllByRecursion (λ v. v.ledger < length ls) votes → 0 < votes_for (children_of ls votes from) c → (to : ℕ) × IsTowards from to c
  counted [] from c known some = absurd (omega arith)
  counted (v ∷ votes) from c known some =
      let one = sum_by-cons (λ (o : Option ℕ). cond (follows o c) 1 0) (towards ls from v.ledger) (children_of ls votes from) in
      first (follows (towards ls from v.ledger) c) refl (λ more. counted votes from c known.1 more) (omega arith)
    where
      first : (b : Bool) → follows (towards ls from v.ledger) c ≡ b → (0 < votes_for (children_of ls votes from) c → (to : ℕ) × IsTowards from to c) → 0 < cond b 1 0 + votes_for (children_of ls votes from) c → (to : ℕ) × IsTowards from to c
      first true is later lt = (v.ledger, of_towards from v.ledger c known.0 (follows_is (towards ls from v.ledger) c is))
      first false is later lt = later (omega arith)
