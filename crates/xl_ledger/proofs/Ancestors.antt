-- What holds of the ancestors of a ledger, and of its jumps.
use Rattle.std.proofs.Common.{◌≡◌, ℕ, zero, suc, ◌+◌, ◌-◌, ◌^◌, ◌<◌, ◌≤◌, List, [], ◌∷◌, ◌++◌, length, get_or, take, Some, slice_get, refl, sym, ap, ◌∙◌, arith, inl, inr}
use Rattle.std.proofs.lemmas.Bool.{cases_lt}
use Rattle.std.proofs.Math.Nat.{pow-suc}
use Rattle.std.proofs.lemmas.List.{get_or-take, get_or_append_left, take-append-le, take_all}
use Rattle.std.proofs.lemmas.Option.{slice_get-get_or, get_or_from_slice_get}
use Rattle.xl_ledger.specs.declared.header.Header.{Header}
use Rattle.xl_ledger.specs.Chains.{seq_at, chain, AreLedgers}
use Rattle.xl_ledger.specs.Jumps.{ancestor_of, jump_of}
use Rattle.xl_ledger.proofs.ChainLaws.{HasParent, parent_known, seq_of_root, chain_more, length-chain, chain_ends, IsAt, of_chain}

pub double : (n : ℕ) → 2 ^ suc n ≡ 2 ^ n + 2 ^ n
double n = omega (arith, pow-suc 2 n)

-- ---- ancestors

pub at_ancestor : (ls : List Header) (place s : ℕ) → s ≤ seq_at ls place → slice_get (chain ls place) s ≡ Some (ancestor_of ls place s)
at_ancestor ls place s le = slice_get-get_or (chain ls place) s 0 (omega (arith, length-chain ls place))

-- the ancestor of the ledger's own sequence is the ledger
pub own_ancestor : (ls : List Header) (place s : ℕ) → s ≡ seq_at ls place → ancestor_of ls place s ≡ place
own_ancestor ls place s e = ap (λ (n : ℕ). ancestor_of ls place n) e ∙ get_or_from_slice_get (chain ls place) (seq_at ls place) place 0 (chain_ends ls place)

module _ (ls : List Header) (ok : AreLedgers ls) where
  pub is_ancestor : (place s : ℕ) → place < length ls → s ≤ seq_at ls place → IsAt ls ok place s (ancestor_of ls place s)
  is_ancestor place s within le = of_chain ls ok place within s (ancestor_of ls place s) (at_ancestor ls place s le)

  -- no chain is longer than the ledgers up to its own
  seq_within : (n place : ℕ) → place < length ls → seq_at ls place ≡ n → n ≤ place
  seq_within zero place within e = omega arith
  seq_within (suc n) zero within e = absurd (omega (arith, seq_of_root ls ok))
  seq_within (suc n) (suc place) within e =
      let has = parent_known ls ok (suc place) (omega arith) within in
      let up : n ≤ has.0 = seq_within n has.0 (omega (arith, has.1.earlier)) (omega (arith, has.1.next)) in
      omega (arith, has.1.earlier)

  pub seq_le : (place : ℕ) → place < length ls → seq_at ls place ≤ place
  seq_le place within = seq_within (seq_at ls place) place within refl

  -- the chain of an ancestor is the front of the chain
  front_own : (place s : ℕ) → s ≡ seq_at ls place → chain ls (ancestor_of ls place s) ≡ take (suc s) (chain ls place)
  front_own place s own = ap (chain ls) (own_ancestor ls place s own) ∙ sym (take_all (suc s) (chain ls place) (omega (arith, length-chain ls place)))

  front_within : (n place s : ℕ) → place < length ls → seq_at ls place ≡ n → s ≤ n → chain ls (ancestor_of ls place s) ≡ take (suc s) (chain ls place)
  front_within zero place s within e le = front_own place s (omega arith)
  front_within (suc n) zero s within e le = absurd (omega (arith, seq_of_root ls ok))
  front_within (suc n) (suc place) s within e le =
      let has = parent_known ls ok (suc place) (omega arith) within in
      let p : ℕ = has.0 in
      let more : chain ls (suc place) ≡ chain ls p ++ suc place ∷ [] = chain_more ls ok (suc place) p (omega arith) has.1 in
      let long = length-chain ls p in
      elim (cases_lt s (suc n)) [
        | inl lt ↦
            let here : ancestor_of ls (suc place) s ≡ ancestor_of ls p s = ap (λ (xs : List ℕ). get_or xs s 0) more ∙ get_or_append_left (chain ls p) (suc place ∷ []) 0 s (omega (arith, has.1.next)) in
            ap (chain ls) here ∙ front_within n p s (omega (arith, has.1.earlier)) (omega (arith, has.1.next)) (omega arith)
            ∙ sym (ap (take (suc s)) more ∙ take-append-le (suc s) (chain ls p) (suc place ∷ []) (omega (arith, has.1.next)))
        | inr ge ↦ front_own (suc place) s (omega arith)
      ]

  pub chain_front : (place s : ℕ) → place < length ls → s ≤ seq_at ls place → chain ls (ancestor_of ls place s) ≡ take (suc s) (chain ls place)
  chain_front place s within le = front_within (seq_at ls place) place s within refl le

  -- an ancestor's ancestor is the ledger's
  pub ancestor_twice : (place s t : ℕ) → place < length ls → s ≤ seq_at ls place → t ≤ s → ancestor_of ls (ancestor_of ls place s) t ≡ ancestor_of ls place t
  ancestor_twice place s t within le lower = ap (λ (xs : List ℕ). get_or xs t 0) (chain_front place s within le) ∙ get_or-take (suc s) (chain ls place) t 0 (omega arith)

  -- the parent is one place up
  pub ancestor_parent : (place p s : ℕ) → 0 < place → HasParent ls ok place p → s ≤ seq_at ls p → ancestor_of ls place s ≡ ancestor_of ls p s
  ancestor_parent place p s some has le =
      ap (λ (xs : List ℕ). get_or xs s 0) (chain_more ls ok place p some has) ∙ get_or_append_left (chain ls p) (place ∷ []) 0 s (omega (arith, length-chain ls p))

  -- ---- jumps

  pub is_jump : (place level : ℕ) → place < length ls → IsAt ls ok place (seq_at ls place - 2 ^ level) (jump_of ls place level)
  is_jump place level within = is_ancestor place (seq_at ls place - 2 ^ level) within (omega arith)

  -- two jumps of one level are one of the next
  pub jump_twice : (place level : ℕ) → place < length ls → jump_of ls (jump_of ls place level) level ≡ jump_of ls place (suc level)
  jump_twice place level within =
      let low : seq_at ls place - 2 ^ level ≤ seq_at ls place = omega arith in
      ap (λ (n : ℕ). ancestor_of ls (jump_of ls place level) (n - 2 ^ level)) (is_jump place level within).seq
      ∙ ancestor_twice place (seq_at ls place - 2 ^ level) (seq_at ls place - 2 ^ level - 2 ^ level) within low (omega arith)
      ∙ ap (ancestor_of ls place) (omega (arith, double level))

  -- the first jump is to the parent
  pub jump_parent : (place p : ℕ) → 0 < place → HasParent ls ok place p → jump_of ls place 0 ≡ p
  jump_parent place p some has =
      let up : seq_at ls place - 2 ^ 0 ≡ seq_at ls p = omega (arith, has.next) in
      ap (ancestor_of ls place) up ∙ ancestor_parent place p (seq_at ls p) some has (omega arith) ∙ own_ancestor ls p (seq_at ls p) refl
