-- The headline of any network: nodes with whatever settings, keys among them, each opened at some moment with the
-- number that its keeper holds. Source: Chase and MacBrough, "Analysis of the XRP Ledger Consensus Protocol" (2018).
use Rattle.std.specs.Prelude.{◌≡◌, ℕ, List, [], All}
use Rattle.xl_lists.specs.Agreement.{Agree}
use Rattle.xl_lists.specs.Lists.{IsValid}
use Rattle.xl_core.specs.declared.settings.Settings.{Settings}
use Rattle.xl_core.specs.Core.{with_queues}
use Rattle.xl_core.specs.Node.{opened_node}
use Rattle.xl_world.specs.declared.place.Place.{Place}
use Rattle.xl_world.specs.Disk.{resting}
use Rattle.xl_world.specs.World.{World, Step, AreFit, run}

-- a node just opened, with a list that may be one
pub record IsOpened (p : Place) : Type 0 where
  pub settings : Settings
  pub moment : ℕ
  pub kept : ℕ
  pub list : IsValid settings.list
  pub opened : p ≡ record { core = with_queues (opened_node settings moment kept); disk = resting kept }

-- a network of such nodes, in which nothing was sent, said or reported yet
pub record IsNew (w : World) : Type 0 where
  pub opened : All IsOpened w.places
  pub sent : w.sent ≡ []
  pub said : w.said ≡ []
  pub reports : w.reports ≡ []

-- The headline, of every run of every new network: if no frame is forged, two reports of one sequence name one ledger,
-- wherever the quorums of the two lists that were in force at them are enough.
abbrev pub HeadlineOfNetworks : Type 0
HeadlineOfNetworks =
    (w : World) (steps : List Step) →
    IsNew w → AreFit steps → (run w steps).forged ≡ 0 → Agree w.liars (run w steps).reports
