-- The node at which something happens, and what it holds before and behind it. Source: this project's own formats.
use Rattle.std.specs.Prelude.{ℕ, List, [], Option, Some, None, option_map}
use Rattle.std.specs.List.{flat_map}
use Rattle.xl_core.specs.Core.{Core}
use Rattle.xl_held.specs.Changes.{changed_lines, opened_lines}
use Rattle.xl_noted.specs.Noted.{Noted, noted}
use Rattle.xl_sched.specs.declared.event.What.{What}
use Rattle.xl_sched.specs.declared.event.What.TheVariants as what
use Rattle.xl_sched.specs.declared.named.Named.{Named}
use Rattle.xl_world.specs.Schedule.{frame_at, node_asked}
use Rattle.xl_world.specs.World.{World, core_in}

-- the node at which something happens, if it is one
abbrev pub node_of : World → What → Option ℕ
node_of w (what.Ask ask) = Some (node_asked ask)
node_of w (what.Submit node tx) = Some node
node_of w (what.Deliver place) = option_map (λ frame. frame.to) (frame_at w.sent place)
node_of w (what.Greet node peer) = Some node
node_of w (what.Restart node) = Some node
node_of w (what.Cut new ask) = Some (node_asked ask)
node_of w (what.Fail new ask) = Some (node_asked ask)
node_of w (what.List node list) = Some node
node_of w (what.Lie from to lie) = Some to
node_of w (what.Raw to bytes) = Some to
node_of w (what.Prefer node) = Some node
node_of w (what.Heard node) = Some node
node_of w other = None

-- what it holds; a liar's number has no node
abbrev pub noted_at : World → Option ℕ → Option Noted
noted_at w None = None
noted_at w (Some i) = option_map (λ core. noted core.node) (core_in w i)

abbrev pub changed_in : List Named → ℕ → Noted → Option Core → List ℕ
changed_in names i before None = []
changed_in names i before (Some core) = changed_lines names i before core.node

-- what the node holds in a world that it didn't hold before
abbrev pub changed_at : List Named → Option ℕ → Option Noted → World → List ℕ
changed_at names None before w = []
changed_at names (Some i) None w = []
changed_at names (Some i) (Some before) w = changed_in names i before (core_in w i)

abbrev pub opened_in : List Named → ℕ → Option Core → List ℕ
opened_in names i None = []
opened_in names i (Some core) = opened_lines names i core.node

-- what all nodes hold that were just opened, by rising numbers
abbrev pub all_opened : List Named → World → List ℕ
all_opened names w = flat_map (λ i. opened_in names i (core_in w i)) w.numbers
