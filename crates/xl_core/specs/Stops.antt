-- A stop at any moment: what a node has said, or has waiting to be said, is of a sequence that its keeper can't fall
-- below.
-- Source: this profile, by which a node saves a sequence before it says it.
use Rattle.std.specs.Prelude.{◌≡◌, ℕ, ◌≤◌, All, IfSome, Some, ⊤}
use Rattle.std.specs.declared.option.Option.{Option}
use Rattle.std.specs.Option.{option_and_then}
use Rattle.xl_io.specs.Keepers.{Held, MayHold}
use Rattle.xl_wire.specs.declared.validation.Validation.{Validation}
use Rattle.xl_validations.specs.Rows.{row_of}
use Rattle.xl_core.specs.declared.item.Item.{Item}
use Rattle.xl_core.specs.declared.item.Item.TheVariants.{Validation as ValidationItem}
use Rattle.xl_core.specs.Node.{Node}
use Rattle.xl_core.specs.Core.{Core}

-- a stop leaves no number below this
abbrev pub HoldsAtLeast : ℕ → Held → Type 0
HoldsAtLeast kept held = (n : ℕ) → MayHold held n → kept ≤ n

-- the validation in the node's own row, if there is one
abbrev pub own_current : Node → Option Validation
own_current n = option_and_then (λ row. row.current) (row_of n.rows n.me)

-- a validation that waits is of a sequence that is at most this
abbrev pub IsItemCovered : ℕ → Item → Type 0
IsItemCovered kept (ValidationItem v) = v.seq ≤ kept
IsItemCovered kept other = ⊤

-- a stop may leave no number below the kept one, and what the node has said is at most that
pub record IsCovered (held : Held) (core : Core) : Type 0 where
  pub saved : HoldsAtLeast core.node.kept held
  pub own : IfSome (own_current core.node) (λ v. v.seq ≤ core.node.kept)
  pub waiting : All (λ q. All (IsItemCovered core.node.kept) q.items) core.waiting

-- what a stop may leave then covers the core, if it did before, if the keeper tells
abbrev pub StaysCovered : Option Held → Option Held → Core → Core → Type 0
StaysCovered held held' old new =
    (before after : Held) → held ≡ Some before → held' ≡ Some after → IsCovered before old → IsCovered after new
