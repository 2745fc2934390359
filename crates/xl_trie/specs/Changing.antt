-- How a vote changes the spans. Source: rippled's LedgerTrie, where a vote splits a span, and one that goes merges two.
use Rattle.std.specs.Prelude.{◌≡◌, ◌≢◌, ℕ, Option, Some, None}
use Rattle.xl_pool.specs.declared.name.Name.{Name}
use Rattle.xl_trie.specs.declared.node.Span.{Span}
use Rattle.xl_trie.specs.Nodes.{hung_at}

-- a new span without votes that hangs at a
abbrev pub leaf_of : Name → ℕ → ℕ → Span
leaf_of a ledger first = record { ledger = ledger; first = first; parent = Some a; tip = 0; branch = 0 }

-- the span t is cut in two: under a new name d, its front ends at a ledger; the rest hangs there
pub record IsSplit (old new : Name → Option Span) (a d k : Name) (t : Span) (ledger begin : ℕ) : Type 0 where
  pub fresh : old d ≡ None
  pub front : new d ≡ Some (record { ledger = ledger; first = t.first; parent = Some a; tip = 0; branch = t.branch })
  pub rest : new k ≡ Some (hung_at t (Some d) begin)
  pub others : (b : Name) → b ≢ d → b ≢ k → new b ≡ old b

-- the span s goes, and its one child t hangs in its place, at a
pub record IsMerged (old new : Name → Option Span) (a c k : Name) (s t : Span) : Type 0 where
  pub gone : new c ≡ None
  pub rest : new k ≡ Some (hung_at t (Some a) s.first)
  pub others : (b : Name) → b ≢ c → b ≢ k → new b ≡ old b
