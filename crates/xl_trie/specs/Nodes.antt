-- The nodes of a pool by their names, and the lines of siblings.
-- Source: linked lists of siblings, as in Knuth, The Art of Computer Programming, section 2.3.2.
use Rattle.std.specs.Prelude.{◌≡◌, ◌≢◌, ◌⊎◌, ℕ, List, [], ◌∷◌, Option, Some, None}
use Rattle.xl_pool.specs.Pools.{Slot, get, Updates}
use Rattle.xl_pool.specs.declared.name.Name.{Name}
use Rattle.xl_trie.specs.declared.node.Node.{Node}
use Rattle.xl_trie.specs.declared.node.Span.{Span}

abbrev pub In : {X : Type 0} → X → List X → Type 0
In x [] = ⊥
In x (y ∷ ys) = (x ≡ y) ⊎ In x ys

-- no two are the same
abbrev pub Apart : {X : Type 0} → List X → Type 0
Apart [] = Unit {0}
Apart (x ∷ xs) = (In x xs → ⊥) × Apart xs

abbrev pub span_of : Option Node → Option Span
span_of None = None
span_of (Some n) = Some n.span

-- the span of a name that has a node
abbrev pub spans : List (Slot Node) → Name → Option Span
spans nodes a = span_of (get nodes a)

-- b is the name of a span that hangs at a
abbrev pub IsKid : (Name → Option Span) → Name → Name → Span → Type 0
IsKid S a b s = (S b ≡ Some s) × (s.parent ≡ Some a)

-- a name has this span now, or none, and each other name what it had
pub record Becomes (old new : Name → Option Span) (a : Name) (now : Option Span) : Type 0 where
  pub changed : new a ≡ now
  pub others : (b : Name) → b ≢ a → new b ≡ old b

-- the span of a name becomes this one, made of what it was
abbrev pub BecomesOf : (Name → Option Span) → (Name → Option Span) → Name → (Span → Span) → Type 0
BecomesOf old new a made = (s : Span) → old a ≡ Some s → Becomes old new a (Some (made s))

-- the names from one on, each leading to the next by its sibling
abbrev pub Leads : List (Slot Node) → Option Name → List Name → Type 0
Leads nodes at [] = at ≡ None
Leads nodes at (b ∷ bs) = (at ≡ Some b) × ((n : Node) × (get nodes b ≡ Some n) × Leads nodes n.sibling bs)

-- from the first child on stand the nodes that hang at a, each once
pub record HasKids (nodes : List (Slot Node)) (a : Name) (n : Node) : Type 0 where
  pub kids : List Name
  pub leads : Leads nodes n.child kids
  pub apart : Apart kids
  pub each : (b : Name) → In b kids → (m : Node) × (get nodes b ≡ Some m) × (m.span.parent ≡ Some a)
  pub all : (b : Name) (m : Node) → get nodes b ≡ Some m → m.span.parent ≡ Some a → In b kids

-- each node's children are linked
abbrev pub AllKids : List (Slot Node) → Type 0
AllKids nodes = (a : Name) (n : Node) → get nodes a ≡ Some n → HasKids nodes a n

-- each span hangs at a name that has one, if at any
abbrev pub AllHang : (Name → Option Span) → Type 0
AllHang S = (a : Name) (s : Span) (b : Name) → S a ≡ Some s → s.parent ≡ Some b → (t : Span) × (S b ≡ Some t)

-- the child of a that leads to c, or none if c is the first
abbrev pub IsBefore : List (Slot Node) → Name → Name → Option Name → Type 0
IsBefore nodes a c None = (b : Name) (m : Node) → get nodes b ≡ Some m → m.span.parent ≡ Some a → m.sibling ≢ Some c
IsBefore nodes a c (Some b) = (m : Node) × (get nodes b ≡ Some m) × (m.span.parent ≡ Some a) × (m.sibling ≡ Some c)

-- the name that led to a child of a, or a itself where it was the first, leads elsewhere
abbrev pub LeadsNow : List (Slot Node) → List (Slot Node) → Name → Option Name → Option Name → Type 0
LeadsNow old new a None to =
    (n : Node) × (get old a ≡ Some n) ×
    Updates old new a (Some (record { span = n.span; child = to; sibling = n.sibling }))
LeadsNow old new a (Some b) to =
    (n : Node) × (get old b ≡ Some n) ×
    Updates old new b (Some (record { span = n.span; child = n.child; sibling = to }))

-- the span, if it hangs there and begins with this ledger
abbrev pub hung_at : Span → Option Name → ℕ → Span
hung_at s parent first = record { ledger = s.ledger; first = first; parent = parent; tip = s.tip; branch = s.branch }
