-- The spans of a trie of votes, and what is true of them. Source: rippled's LedgerTrie, whose nodes but the root have
-- votes of their own or two children.
use Rattle.std.specs.Prelude.{◌≡◌, ◌≢◌, ◌⊎◌, ℕ, ◌<◌, List, [], length, map, Option, Some, None}
use Rattle.xl_ledger.specs.declared.header.Header.{Header}
use Rattle.xl_ledger.specs.declared.vote.Vote.{Vote}
use Rattle.xl_ledger.specs.Chains.{AreLedgers}
use Rattle.xl_ledger.specs.Votes.{AreKnown, tip_of, branch_of}
use Rattle.xl_pool.specs.Pools.{Slot}
use Rattle.xl_pool.specs.declared.name.Name.{Name}
use Rattle.xl_trie.specs.declared.node.Node.{Node}
use Rattle.xl_trie.specs.declared.node.Span.{Span}
use Rattle.xl_trie.specs.Nodes.{In, Apart, spans, IsKid, AllKids}
use Rattle.xl_trie.specs.Ways.{way, OnWay, IsBegin}

-- a span hangs at one above it on its way, and begins with the ledger that comes after that one
pub record Hangs (ledgers : List Header) (S : Name → Option Span) (s : Span) : Type 0 where
  pub name : Name
  pub over : Span
  pub is : s.parent ≡ Some name
  pub there : S name ≡ Some over
  pub above : length (way ledgers over.ledger) < length (way ledgers s.ledger)
  pub on : OnWay ledgers over.ledger s.ledger
  pub first : IsBegin ledgers s.ledger over.ledger s.first

-- spans end at known ledgers, each at another one, and but the root's each hangs at one; no two children of one begin
-- alike
pub record AreLinked (ledgers : List Header) (S : Name → Option Span) : Type 0 where
  pub known : (a : Name) (s : Span) → S a ≡ Some s → s.ledger < length ledgers
  pub first : (a : Name) (s : Span) → S a ≡ Some s → s.first < length ledgers
  pub one : (a b : Name) (s t : Span) → S a ≡ Some s → S b ≡ Some t → s.ledger ≡ t.ledger → a ≡ b
  pub hangs : (a : Name) (s : Span) → S a ≡ Some s → ((s.parent ≡ None) × (s.ledger ≡ 0)) ⊎ Hangs ledgers S s
  pub apart : (a b c : Name) (s t : Span) → IsKid S a b s → IsKid S a c t → s.first ≡ t.first → b ≡ c

-- the spans have the counts of votes
pub record AreCounted (ledgers : List Header) (votes : List Vote) (S : Name → Option Span) : Type 0 where
  pub tip : (a : Name) (s : Span) → S a ≡ Some s → s.tip ≡ tip_of votes s.ledger
  pub branch : (a : Name) (s : Span) → S a ≡ Some s → s.branch ≡ branch_of ledgers votes s.ledger

-- a span ends at this ledger
abbrev pub HasSpan : (Name → Option Span) → ℕ → Type 0
HasSpan S x = (a : Name) × (s : Span) × (S a ≡ Some s) × (s.ledger ≡ x)

abbrev pub HasKid : (Name → Option Span) → Name → Type 0
HasKid S a = (b : Name) × (s : Span) × IsKid S a b s

abbrev pub HasFork : (Name → Option Span) → Name → Type 0
HasFork S a = (b : Name) × (c : Name) × (s : Span) × (t : Span) × IsKid S a b s × IsKid S a c t × (b ≢ c)

-- it is the root's, has votes of its own, or two children
abbrev pub IsNeeded : (Name → Option Span) → Name → Span → Type 0
IsNeeded S a s = (s.ledger ≡ 0) ⊎ ((0 < s.tip) ⊎ HasFork S a)

-- it is needed, or one child away from it
abbrev pub IsHalfNeeded : (Name → Option Span) → Name → Type 0
IsHalfNeeded S a = (s : Span) × (S a ≡ Some s) × (IsNeeded S a s ⊎ HasKid S a)

-- the spans are those of the votes; all but one are needed
pub record AreSpans (ledgers : List Header) (votes : List Vote) (S : Name → Option Span)
    (but : Option Name) : Type 0 where
  pub known : AreKnown ledgers votes
  pub linked : AreLinked ledgers S
  pub voted : (v : Vote) → In v votes → HasSpan S v.ledger
  pub counted : AreCounted ledgers votes S
  pub needed : (a : Name) (s : Span) → S a ≡ Some s → but ≢ Some a → IsNeeded S a s

-- so are the nodes
pub record IsTrieBut (ledgers : List Header) (votes : List Vote) (nodes : List (Slot Node))
    (but : Option Name) : Type 0 where
  pub spans : AreSpans ledgers votes (spans nodes) but
  pub kids : AllKids nodes

abbrev pub IsTrie : List Header → List Vote → List (Slot Node) → Type 0
IsTrie ledgers votes nodes = IsTrieBut ledgers votes nodes None

-- the nodes stay those of whatever votes they were, with another one that may not be needed
abbrev pub StayTrie : List Header → List (Slot Node) → Option Name → List (Slot Node) → Option Name → Type 0
StayTrie ledgers old but new now =
    (votes : List Vote) → IsTrieBut ledgers votes old but → IsTrieBut ledgers votes new now

-- the same, over whatever ledgers they are
abbrev pub StayTries : List (Slot Node) → Option Name → List (Slot Node) → Option Name → Type 0
StayTries old but new now = (ledgers : List Header) (votes : List Vote) → AreLedgers ledgers →
    IsTrieBut ledgers votes old but → IsTrieBut ledgers votes new now

-- the nodes are those of some votes
abbrev pub IsSomeTrie : List (Slot Node) → Option Name → Type 0
IsSomeTrie nodes but =
    (ledgers : List Header) × AreLedgers ledgers × ((votes : List Vote) × IsTrieBut ledgers votes nodes but)

-- the name of the root's span
abbrev pub IsRoot : (Name → Option Span) → Name → Type 0
IsRoot S a = (s : Span) × (S a ≡ Some s) × (s.ledger ≡ 0)

-- the nodes are those of the votes, this is the name of the root's, no ledger is above the root, and no member has two
-- votes
abbrev pub GoesWith : List Header → List Vote → List (Slot Node) → Name → Type 0
GoesWith ledgers votes nodes root =
    IsTrie ledgers votes nodes × IsRoot (spans nodes) root × (way ledgers 0 ≡ []) × Apart (map (λ v. v.member) votes)
