-- A schedule that runs, as the definitions see it. Source: what the code of this crate keeps.
use Rattle.std.specs.Prelude.{◌≤◌}
use Rattle.xl_ledger.specs.Limits.{least_limit}
use Rattle.xl_sched.specs.Limits.{most_ledgers}
use Rattle.xl_world.specs.Plans.{AreTimely}
use Rattle.xl_running.specs.declared.running.Running.TheInside.{Inside}
use Rattle.xl_running.specs.Running.{Running}

abbrev pub running_seen : Inside → Running
running_seen r = record {
  reading = r.reader;
  shared = record { limit = r.plan.limit; speak = r.plan.speak };
  plan = r.plan.nodes.items;
  liars = r.plan.liars.items;
  world = r.world;
}

-- the plan is one of which a world may be opened
pub record MayOpen (r : Inside) : Type 0 where
  pub least : least_limit ≤ r.plan.limit
  pub most : r.plan.limit ≤ most_ledgers
  pub moments : AreTimely r.plan.nodes.items
