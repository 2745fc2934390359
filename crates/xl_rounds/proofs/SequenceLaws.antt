-- A ledger's sequence is at most its place in the order in which ledgers were added.
use Rattle.std.proofs.Common.{ℕ, zero, suc, ◌<◌, ◌≤◌, List, length, arith}
use Rattle.xl_ledger.specs.declared.header.Header.{Header}
use Rattle.xl_ledger.specs.Chains.{seq_at, AreLedgers}
use Rattle.xl_ledger.proofs.ChainLaws.{seq_of_root, parent_known}

module _ (ls : List Header) (ok : AreLedgers ls) where
  below : (n place : ℕ) → place ≤ n → place < length ls → seq_at ls place ≤ place
  below n zero most within = omega (arith, seq_of_root ls ok)
  below zero (suc place) most within = absurd (omega arith)
  below (suc n) (suc place) most within =
      let has = parent_known ls ok (suc place) (omega arith) within in
      omega (arith, has.1.earlier, has.1.next, below n has.0 (omega (arith, has.1.earlier)) (omega (arith, has.1.earlier)))

  pub seq_within : (place : ℕ) → place < length ls → seq_at ls place ≤ place
  seq_within place within = below place place (omega arith) within
