-- The preferred ledger is a known one, and whether it is one to go on with.
use Rattle.std.proofs.Common.{◌≡◌, ℕ, zero, suc, ◌-◌, ◌<◌, ◌≤◌, ◌==◌, ◌&&◌, ◌||◌, Bool, true, false, not, cond, List, [], ◌∷◌, length, Option, Some, None, slice_get, refl, sym, ap, subst, ◌∙◌, arith}
use Rattle.std.specs.Prelude.{nat_lt, IfSome}
use Rattle.std.specs.List.{list_all, range_with_len}
use Rattle.std.specs.Ordering.{is_gt}
use Rattle.std.proofs.lemmas.Bool.{eqb-true}
use Rattle.std.proofs.lemmas.Bool.Decides.{nat_tests}
use Rattle.std.proofs.lemmas.List.FromFn.{length-range_with_len, get_or-range_with_len}
use Rattle.std.proofs.lemmas.Option.{slice_get_within, get_or_from_slice_get}
use Rattle.xl_ledger.specs.declared.header.Header.{Header}
use Rattle.xl_ledger.specs.declared.vote.Vote.{Vote}
use Rattle.xl_ledger.specs.Chains.{seq_at, parent_of, chain, AreLedgers}
use Rattle.xl_ledger.specs.Votes.{follows, is_on_chain, branch_of, rank, candidates, best_of, unless_too_few, next_of, or_stay, prefer, preferred_of}
use Rattle.xl_ledger.proofs.ChainLaws.{parent_known, parent_of_known, chain_more, chain_ends, length-chain, seq_of_root}
use Rattle.xl_ledger.proofs.Places.{slice_get-front}
use Rattle.xl_ledger.proofs.Finding.{find_found, of_filter, some_is, false_if}
use Rattle.xl_ledger.proofs.OnChains.{on_at}
use Rattle.xl_validations.specs.Votes.{choose_by}

module _ (ls : List Header) (votes : List Vote) (largest : ℕ) where
  candidate_known : (from i c : ℕ) → slice_get (candidates ls votes from) i ≡ Some c → c < length ls
  candidate_known from i c e =
      let found = of_filter (λ d. follows (parent_of ls d) from && nat_lt 0 (branch_of ls votes d)) (range_with_len 0 (length ls)) i c e in
      let lt = slice_get_within (range_with_len 0 (length ls)) found.at c found.stands in
      let size = length-range_with_len 0 (length ls) in
      let place : c ≡ found.at = sym (get_or_from_slice_get (range_with_len 0 (length ls)) found.at c 0 found.stands) ∙ get_or-range_with_len 0 (length ls) found.at 0 (omega arith) ∙ omega arith in
      omega arith

  next_known : (from c : ℕ) → next_of ls votes largest from ≡ Some c → c < length ls
  next_known from c e = by_best (best_of ls votes (candidates ls votes from)) refl e
    where
      is_best : (b : ℕ) (t : Bool) → cond t (Some b) None ≡ Some c → b ≡ c
      is_best b true h = some_is b c h
      is_best b false h = absurd cc

      by_best : (o : Option ℕ) → best_of ls votes (candidates ls votes from) ≡ o → unless_too_few ls votes largest from (candidates ls votes from) o ≡ Some c → c < length ls
      by_best None is h = absurd cc
      by_best (Some b) is h =
          let found = find_found (λ d. list_all (λ x. x == d || is_gt (rank ls votes d x)) (candidates ls votes from)) (candidates ls votes from) b is in
          subst (λ (n : ℕ). n < length ls) (is_best b _ h) (candidate_known from found.at b found.stands)

  prefer_known : (n at : ℕ) → at < length ls → prefer ls votes largest n at < length ls
  prefer_known zero at lt = lt
  prefer_known (suc n) at lt = by_next (next_of ls votes largest at) refl (λ c within. prefer_known n c within)
    where
      by_next : (o : Option ℕ) → next_of ls votes largest at ≡ o → ((c : ℕ) → c < length ls → prefer ls votes largest n c < length ls) → or_stay at o (λ c. prefer ls votes largest n c) < length ls
      by_next None is go = lt
      by_next (Some c) is go = go c (next_known at c is)

pub preferred_known : (ls : List Header) (votes : List Vote) (largest : ℕ) → 0 < length ls → IfSome (preferred_of ls votes largest) (λ l. l < length ls)
preferred_known ls [] largest some = tt
preferred_known ls (v ∷ votes) largest some = prefer_known ls (v ∷ votes) largest (length ls) 0 some

module _ (ls : List Header) (ok : AreLedgers ls) (current preferred : ℕ) (within : preferred < length ls) where
  -- the ledger before a later one on its chain is its parent
  parent_is : (a : ℕ) → 0 < seq_at ls preferred → slice_get (chain ls preferred) (seq_at ls preferred - 1) ≡ Some a → parent_of ls preferred ≡ Some a
  parent_is a some at = by_place preferred refl
    where
      by_place : (p : ℕ) → preferred ≡ p → parent_of ls preferred ≡ Some a
      by_place zero is = let e : seq_at ls preferred ≡ 0 = ap (seq_at ls) is ∙ seq_of_root ls ok in absurd (omega (arith, some, e))
      by_place (suc p) is =
          let added : 0 < preferred = omega (arith, is) in
          let has = parent_known ls ok preferred added within in
          let n : seq_at ls preferred - 1 ≡ seq_at ls has.0 = omega (arith, has.1.next) in
          let here : slice_get (chain ls preferred) (seq_at ls preferred - 1) ≡ Some has.0 =
          ap (slice_get (chain ls preferred)) n
          ∙ ap (λ (xs : List ℕ). slice_get xs (seq_at ls has.0)) (chain_more ls ok preferred has.0 added has.1)
          ∙ slice_get-front (chain ls has.0) (preferred ∷ []) (seq_at ls has.0) (omega (arith, length-chain ls has.0))
          ∙ chain_ends ls has.0 in
          parent_of_known ls ok preferred has.0 added has.1 ∙ sym here ∙ at

  -- a later ledger is gone to unless it follows the current one at once
  pub later_choice : (a s : ℕ) (b : Bool) → s ≡ seq_at ls preferred → seq_at ls current < s → slice_get (chain ls preferred) (s - 1) ≡ Some a → b ≡ not (a == current) → choose_by ls current (Some preferred) ≡ cond b preferred current
  later_choice a s b s_is lt at b_is =
      let later : seq_at ls current < seq_at ls preferred = omega (arith, s_is) in
      let test : nat_lt (seq_at ls current) (seq_at ls preferred) ≡ true = grind (arith, nat_tests) in
      let parent = parent_is a (omega (arith, later)) (subst (λ (n : ℕ). slice_get (chain ls preferred) (n - 1) ≡ Some a) s_is at) in
      ap (λ (o : Option ℕ). cond (follows o current) current (cond (nat_lt (seq_at ls current) (seq_at ls preferred)) preferred (cond (is_on_chain ls preferred current) current preferred))) parent
      ∙ ap (λ (t : Bool). cond (a == current) current (cond t preferred (cond (is_on_chain ls preferred current) current preferred))) test
      ∙ turn (a == current)
      ∙ ap (λ (t : Bool). cond t preferred current) (sym b_is)
    where
      turn : (t : Bool) → cond t current preferred ≡ cond (not t) preferred current
      turn true = refl
      turn false = refl

  -- an earlier one is gone to unless it is on the current one's chain
  pub earlier_choice : (r s : ℕ) (b : Bool) → current < length ls → s ≡ seq_at ls preferred → s ≤ seq_at ls current → slice_get (chain ls current) s ≡ Some r → b ≡ not (r == preferred) → choose_by ls current (Some preferred) ≡ cond b preferred current
  earlier_choice r s b known s_is le at b_is =
      let on : (r == preferred) ≡ is_on_chain ls preferred current = on_at ls ok preferred current r known (subst (λ (n : ℕ). slice_get (chain ls current) n ≡ Some r) s_is at) in
      let test : nat_lt (seq_at ls current) (seq_at ls preferred) ≡ false = grind (arith, nat_tests, le, s_is) in
      ap (λ (t : Bool). cond t current (cond (nat_lt (seq_at ls current) (seq_at ls preferred)) preferred (cond (is_on_chain ls preferred current) current preferred))) (no_child preferred refl)
      ∙ ap (λ (t : Bool). cond t preferred (cond (is_on_chain ls preferred current) current preferred)) test
      ∙ ap (λ (t : Bool). cond t current preferred) (sym on)
      ∙ turn (r == preferred)
      ∙ ap (λ (t : Bool). cond t preferred current) (sym b_is)
    where
      turn : (t : Bool) → cond t current preferred ≡ cond (not t) preferred current
      turn true = refl
      turn false = refl

      no_child : (p : ℕ) → preferred ≡ p → follows (parent_of ls preferred) current ≡ false
      no_child zero is = ap (λ (n : ℕ). follows (parent_of ls n) current) is
      no_child (suc p) is =
          let added : 0 < preferred = omega (arith, is) in
          let has = parent_known ls ok preferred added within in
          ap (λ (o : Option ℕ). follows o current) (parent_of_known ls ok preferred has.0 added has.1)
          ∙ false_if (has.0 == current) (λ same. let e : seq_at ls has.0 ≡ seq_at ls current = ap (seq_at ls) (eqb-true has.0 current same) in omega (arith, e, has.1.next, le, s_is))
