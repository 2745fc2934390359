-- The last common ledger of two chains, by ancestors of their ledgers.
use Rattle.std.proofs.Common.{◌≡◌, ◌≢◌, ℕ, zero, suc, ◌<◌, ◌≤◌, ◌==◌, false, cond, List, [], ◌∷◌, ◌++◌, length, get_or, take, refl, sym, ap, ◌∙◌, arith}
use Rattle.std.proofs.lemmas.Bool.Decides.{nat_tests}
use Rattle.xl_ledger.specs.declared.header.Header.{Header}
use Rattle.xl_ledger.specs.Chains.{seq_at, chain, last_common, common_of, AreLedgers}
use Rattle.xl_ledger.specs.Jumps.{ancestor_of, jump_of}
use Rattle.xl_ledger.proofs.ChainLaws.{unless, parent_known, seq_of_root, seq_of_added, chain_more, length-chain, common_same}
use Rattle.xl_ledger.proofs.Ancestors.{chain_front, jump_parent}

-- ---- lists

-- what stands behind the other's length changes nothing
pub last_common-cut_left : (last n : ℕ) (xs ys : List ℕ) → length ys ≤ n → last_common last (take n xs) ys ≡ last_common last xs ys
last_common-cut_left last zero (x ∷ xs) (y ∷ ys) le = absurd (omega arith)
last_common-cut_left last (suc n) (x ∷ xs) (y ∷ ys) le = ap (λ (k : ℕ). cond (x == y) k last) (last_common-cut_left x n xs ys (omega arith))
last_common-cut_left last n xs ys le = refl

pub last_common-cut_right : (last n : ℕ) (xs ys : List ℕ) → length xs ≤ n → last_common last xs (take n ys) ≡ last_common last xs ys
last_common-cut_right last n [] ys le = refl
last_common-cut_right last zero (x ∷ xs) ys le = absurd (omega arith)
last_common-cut_right last (suc n) (x ∷ xs) [] le = refl
last_common-cut_right last (suc n) (x ∷ xs) (y ∷ ys) le = ap (λ (k : ℕ). cond (x == y) k last) (last_common-cut_right x n xs ys (omega arith))

-- what stands behind a place at which they differ changes nothing
pub last_common-cut : (last n : ℕ) (xs ys : List ℕ) → n < length xs → n < length ys → get_or xs n 0 ≢ get_or ys n 0
    → last_common last (take (suc n) xs) (take (suc n) ys) ≡ last_common last xs ys
last_common-cut last n [] ys left right differs = absurd (omega arith)
last_common-cut last n (x ∷ xs) [] left right differs = absurd (omega arith)
last_common-cut last zero (x ∷ xs) (y ∷ ys) left right differs =
    let other : (x == y) ≡ false = grind (arith, nat_tests, differs) in
    unless (x == y) (last_common x (take 0 xs) (take 0 ys)) last other ∙ sym (unless (x == y) (last_common x xs ys) last other)
last_common-cut last (suc n) (x ∷ xs) (y ∷ ys) left right differs =
    ap (λ (k : ℕ). cond (x == y) k last) (last_common-cut x n xs ys (omega arith) (omega arith) differs)

-- one list, with another element behind it each time
pub last_common-seam : (last x y : ℕ) (zs : List ℕ) → x ≢ y → last_common last (zs ++ x ∷ []) (zs ++ y ∷ []) ≡ last_common last zs zs
last_common-seam last x y [] differs = unless (x == y) (last_common x [] []) last (grind (arith, nat_tests, differs))
last_common-seam last x y (z ∷ zs) differs = ap (λ (k : ℕ). cond (z == z) k last) (last_common-seam z x y zs differs)

-- ---- ledgers

module _ (ls : List Header) (ok : AreLedgers ls) where
  -- what a ledger shares with another isn't below the other's sequence
  pub common_leveled_left : (a b s : ℕ) → a < length ls → s ≡ seq_at ls b → s ≤ seq_at ls a → common_of ls (ancestor_of ls a s) b ≡ common_of ls a b
  common_leveled_left a b s within e le =
      ap (λ (xs : List ℕ). last_common 0 xs (chain ls b)) (chain_front ls ok a s within le)
      ∙ last_common-cut_left 0 (suc s) (chain ls a) (chain ls b) (omega (arith, length-chain ls b))

  pub common_leveled_right : (a b s : ℕ) → b < length ls → s ≡ seq_at ls a → s ≤ seq_at ls b → common_of ls a (ancestor_of ls b s) ≡ common_of ls a b
  common_leveled_right a b s within e le =
      ap (λ (ys : List ℕ). last_common 0 (chain ls a) ys) (chain_front ls ok b s within le)
      ∙ last_common-cut_right 0 (suc s) (chain ls a) (chain ls b) (omega (arith, length-chain ls a))

  -- where two ancestors of one sequence differ, the last common ledger is above them
  pub common_rises : (a b s : ℕ) → a < length ls → b < length ls → s ≤ seq_at ls a → s ≤ seq_at ls b → ancestor_of ls a s ≢ ancestor_of ls b s
      → common_of ls (ancestor_of ls a s) (ancestor_of ls b s) ≡ common_of ls a b
  common_rises a b s a_within b_within a_le b_le differs =
      ap (λ (xs : List ℕ). last_common 0 xs (chain ls (ancestor_of ls b s))) (chain_front ls ok a s a_within a_le)
      ∙ ap (λ (ys : List ℕ). last_common 0 (take (suc s) (chain ls a)) ys) (chain_front ls ok b s b_within b_le)
      ∙ last_common-cut 0 s (chain ls a) (chain ls b) (omega (arith, length-chain ls a)) (omega (arith, length-chain ls b)) differs

  -- only the root has no ledger above it
  pub not_root_if : (a b : ℕ) → a < length ls → a ≢ b → seq_at ls a ≡ seq_at ls b → b < length ls → 0 < a
  not_root_if zero zero within differs same b_within = absurd (differs refl)
  not_root_if zero (suc b) within differs same b_within = absurd (omega (arith, seq_of_root ls ok, seq_of_added ls ok (suc b) (omega arith) b_within))
  not_root_if (suc a) b within differs same b_within = omega arith

  -- two ledgers that follow the same one have it as their last common one
  pub common_parent : (a b : ℕ) → a < length ls → b < length ls → seq_at ls a ≡ seq_at ls b → a ≢ b → jump_of ls a 0 ≡ jump_of ls b 0 → jump_of ls a 0 ≡ common_of ls a b
  common_parent a b a_within b_within same differs meet =
      let a_some : 0 < a = not_root_if a b a_within differs same b_within in
      let b_some : 0 < b = not_root_if b a b_within (λ e. differs (sym e)) (sym same) a_within in
      let left = parent_known ls ok a a_some a_within in
      let right = parent_known ls ok b b_some b_within in
      let p : ℕ = left.0 in
      let up : jump_of ls a 0 ≡ p = jump_parent ls ok a p a_some left.1 in
      let one : right.0 ≡ p = sym (jump_parent ls ok b right.0 b_some right.1) ∙ sym meet ∙ up in
      let a_more : chain ls a ≡ chain ls p ++ a ∷ [] = chain_more ls ok a p a_some left.1 in
      let b_more : chain ls b ≡ chain ls p ++ b ∷ [] = chain_more ls ok b right.0 b_some right.1 ∙ ap (λ (q : ℕ). chain ls q ++ b ∷ []) one in
      up ∙ sym (ap (λ (xs : List ℕ). last_common 0 xs (chain ls b)) a_more ∙ ap (λ (ys : List ℕ). last_common 0 (chain ls p ++ a ∷ []) ys) b_more
      ∙ last_common-seam 0 a b (chain ls p) differs ∙ common_same ls p)
