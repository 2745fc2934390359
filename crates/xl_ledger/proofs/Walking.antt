-- Walks that go on, and what the loops of a walk keep.
use Rattle.std.proofs.Common.{◌≡◌, ◌≢◌, ℕ, ◌<◌, ◌≤◌, ◌==◌, Bool, true, false, not, List, length, Some, refl, sym, ap, subst, ◌∙◌, arith}
use Rattle.std.proofs.lemmas.Bool.Decides.{nat_tests}
use Rattle.xl_ledger.specs.declared.header.Header.{Header}
use Rattle.xl_ledger.specs.Registries.{Ledgers}
use Rattle.xl_ledger.specs.Chains.{parent_of, AreLedgers}
use Rattle.xl_ledger.specs.Walks.{Walked, GoesOn}
use Rattle.xl_ledger.proofs.ChainLaws.{HasParent, parent_known, parent_of_known}

abbrev pub walked : Ledgers → ℕ → Walked
walked ledgers taken = record { ledgers = ledgers; taken = taken }

-- from the walk as it was when its count was opened, to the one with another count
pub counted : (old : Walked) (ledgers : Ledgers) (before after : ℕ) → walked ledgers before ≡ old → before ≤ after → GoesOn old (walked ledgers after)
counted old ledgers before after e le = record { stays = ap (λ (w : Walked). w.ledgers) e; later = omega (arith, ap (λ (w : Walked). w.taken) e) }

pub goes_then : (a b c : Walked) → GoesOn a b → GoesOn b c → GoesOn a c
goes_then a b c p q = record { stays = q.stays ∙ p.stays; later = omega (arith, p.later, q.later) }

pub goes_from : (a : Walked) → GoesOn a a
goes_from a = record { stays = refl; later = omega arith }

module _ (ls : List Header) (ok : AreLedgers ls) where
  -- a parent that was told is the parent
  pub told_parent : (place p : ℕ) → 0 < place → place < length ls → parent_of ls place ≡ Some p → HasParent ls ok place p
  told_parent place p some within e =
      let has = parent_known ls ok place some within in
      let same : has.0 ≡ p = some_is has.0 p (sym (parent_of_known ls ok place has.0 some has.1) ∙ e) in
      subst (λ (q : ℕ). HasParent ls ok place q) same has.1
    where
      some_is : (a b : ℕ) → Some a ≡ Some b → a ≡ b
      some_is a b e = cc

-- ---- what the tests of two places tell

pub same_if : (a b : ℕ) (n : Bool) → n ≡ not (a == b) → n ≡ false → a ≡ b
same_if a b n d same = grind (arith, nat_tests)

pub apart_if : (a b : ℕ) (t : Bool) → t ≡ (a == b) → t ≡ false → a ≢ b
apart_if a b t e is = grind (arith, nat_tests)

pub apart_if_not : (a b : ℕ) (n : Bool) → n ≡ not (a == b) → n ≡ true → a ≢ b
apart_if_not a b n e is = grind (arith, nat_tests)

pub same_if_so : (a b : ℕ) (t : Bool) → t ≡ (a == b) → t ≡ true → a ≡ b
same_if_so a b t e is = grind (arith, nat_tests)
