-- How counts change as a vote comes or goes. Source: rippled's LedgerTrie, whose branch support rises or falls up to
-- the root.
use Rattle.std.specs.Prelude.{◌≡◌, ◌⊎◌, ℕ, ◌+◌, ◌-◌, Bool, List, Option, Some, count_by, if◌then◌else◌}
use Rattle.xl_ledger.specs.declared.header.Header.{Header}
use Rattle.xl_ledger.specs.declared.vote.Vote.{Vote}
use Rattle.xl_pool.specs.declared.name.Name.{Name}
use Rattle.xl_trie.specs.declared.node.Span.{Span}
use Rattle.xl_trie.specs.declared.counting.Change.{Change}
use Rattle.xl_trie.specs.declared.counting.Change.TheVariants.{OneMore, OneFewer}
use Rattle.xl_trie.specs.Nodes.{In}
use Rattle.xl_trie.specs.Ways.{OnWay}

abbrev pub changed_count : Change → ℕ → ℕ
changed_count OneMore count = count + 1
changed_count OneFewer count = count - 1

-- the span with other counts
abbrev pub with_counts : Span → ℕ → ℕ → Span
with_counts s tip branch = record { ledger = s.ledger; first = s.first; parent = s.parent; tip = tip; branch = branch }

-- the counts of the votes at or below them have changed for the spans on the way to x, and no others
pub record AreRecounted (ledgers : List Header) (old new : Name → Option Span) (change : Change) (x : ℕ) : Type 0 where
  pub each : (a : Name) (s : Span) → old a ≡ Some s → (n : ℕ) × (new a ≡ Some (with_counts s s.tip n)) ×
      ((OnWay ledgers s.ledger x × (n ≡ changed_count change s.branch)) ⊎ ((OnWay ledgers s.ledger x → ⊥) × (n ≡ s.branch)))
  pub back : (a : Name) (s : Span) → new a ≡ Some s → (t : Span) × (old a ≡ Some t)

-- one vote has come, or has gone
pub record IsChange (change : Change) (v : Vote) (votes now : List Vote) : Type 0 where
  pub counts : (p : Vote → Bool) →
      count_by p now ≡ (if p v then changed_count change (count_by p votes) else count_by p votes)
  pub from : (w : Vote) → In w now → In w votes ⊎ (w ≡ v)
