-- Who is in a world: the honest nodes as they are declared, and the liars. Source: this project's schedule language.
use Rattle.std.specs.Prelude.{ℕ, ◌+◌, ◌≤◌, ◌==◌, ◌||◌, Bool, List, [], ◌∷◌, zero, suc, All, find, option_map}
use Rattle.std.specs.declared.option.Option.{Option}
use Rattle.std.specs.List.{list_any}
use Rattle.xl_base.specs.Moments.{greatest_millis}
use Rattle.xl_lists.specs.Lists.{TrustedList, IsValid, is_on}
use Rattle.xl_tags.specs.Rings.{schedule_ring}
use Rattle.xl_core.specs.declared.settings.Settings.{Settings}
use Rattle.xl_world.specs.declared.plan.PlanNode.{PlanNode}

-- this many numbers from one on
unfoldable pub up_from : ℕ → ℕ → List ℕ
up_from n zero = []
up_from n (suc k) = n ∷ up_from (n + 1) k

-- the numbers that a member may have
abbrev pub all_numbers : List ℕ
all_numbers = up_from 1 64

abbrev pub is_declared : List ℕ → List PlanNode → ℕ → Bool
is_declared liars plan k = list_any (λ d. d.me == k) plan || is_on liars k

-- what every node is opened with: room for so many ledgers, and the version of its validations
pub record Shared : Type 0 where
  pub limit : ℕ
  pub speak : ℕ

-- what a declared node is opened with
abbrev pub planned_settings : Shared → PlanNode → Settings
planned_settings shared d = record {
  me = d.me;
  list = d.list;
  keys = schedule_ring d.me;
  limit = shared.limit;
  validating = d.validating;
  speak = shared.speak;
}

-- a node is declared with a number that a member may have, and a list that may be one
pub record IsDeclared (d : PlanNode) : Type 0 where
  pub least : 1 ≤ d.me
  pub greatest : d.me ≤ 64
  pub list : IsValid d.list

abbrev pub AreDeclared : List PlanNode → Type 0
AreDeclared plan = All IsDeclared plan

-- each node is opened at a moment that there may be
abbrev pub AreTimely : List PlanNode → Type 0
AreTimely plan = All (λ d. d.moment ≤ greatest_millis) plan

-- the list that a number is declared with
abbrev pub list_at : List PlanNode → ℕ → Option TrustedList
list_at plan i = option_map (λ d. d.list) (find (λ d. d.me == i) plan)
