-- Where the way to a ledger leaves the trie. Source: rippled's LedgerTrie, which finds the span that shares the longest
-- front.
use Rattle.std.specs.Prelude.{◌≡◌, ℕ, ◌<◌, ◌≤◌, List, length, Option, Some, None}
use Rattle.xl_ledger.specs.declared.header.Header.{Header}
use Rattle.xl_pool.specs.declared.name.Name.{Name}
use Rattle.xl_trie.specs.declared.node.Span.{Span}
use Rattle.xl_trie.specs.declared.seeking.Place.{Place}
use Rattle.xl_trie.specs.Nodes.{IsKid}
use Rattle.xl_trie.specs.Ways.{way, OnWay, IsBegin}

-- the way goes on below the span s, into the span t
abbrev pub Enters : List Header → Span → Span → ℕ → Type 0
Enters ledgers s t to = (length (way ledgers s.ledger) < length (way ledgers to)) × IsBegin ledgers to s.ledger t.first

-- the child of a into whose span the way goes
abbrev pub EntersAt : List Header → (Name → Option Span) → Name → Span → ℕ → Option Name → Type 0
EntersAt ledgers S a s to None = (c : Name) (t : Span) → IsKid S a c t → Enters ledgers s t to → ⊥
EntersAt ledgers S a s to (Some c) = (t : Span) × IsKid S a c t × Enters ledgers s t to

-- the deepest span that ends on the way, and the child into whose span the way goes from there
pub record IsPlace (ledgers : List Header) (S : Name → Option Span) (to : ℕ) (place : Place) : Type 0 where
  pub span : Span
  pub there : S place.at ≡ Some span
  pub on : OnWay ledgers span.ledger to
  pub deepest : (b : Name) (t : Span) → S b ≡ Some t → OnWay ledgers t.ledger to →
      length (way ledgers t.ledger) ≤ length (way ledgers span.ledger)
  pub enters : EntersAt ledgers S place.at span to place.within
