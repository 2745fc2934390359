-- How a node is, as its core tells it. Source: this project's own, for those who run one.
use Rattle.std.specs.Prelude.{ℕ, Bool, List, length, map, is_some}
use Rattle.xl_lists.specs.Lists.{all_numbers}
use Rattle.xl_validations.specs.Rows.{current_of}
use Rattle.xl_core.specs.Core.{Core}
use Rattle.xl_core.specs.Node.{Node, preferred}
use Rattle.xl_store.specs.declared.status.NodeStatus.{NodeStatus}

-- a member is heard: its row has a current validation, one that was signed less than 180 seconds ago
abbrev pub is_heard : Node → ℕ → Bool
is_heard n member = is_some (current_of n.rows member)

-- whether each number is, from 1 on
abbrev pub heard_in : Node → List Bool
heard_in n = map (is_heard n) all_numbers

-- what a core tells of its node, without the keys
abbrev pub status_of : Core → NodeStatus
status_of core = record {
  me = core.node.me;
  list = core.node.list;
  time = core.node.time;
  ledgers = length core.node.ledgers.headers;
  limit = core.node.ledgers.limit;
  kept = core.node.kept;
  failed_save = core.node.failed_save;
  last = core.node.last.report;
  preferred = preferred core.node;
  lost_reports = core.untaken.lost;
  heard = heard_in core.node;
}
