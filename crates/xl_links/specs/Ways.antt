-- How members are reached, and the links that a hub is asked for. Source: this project's own.
use Rattle.std.specs.Prelude.{ℕ, List, string_bytes}
use Rattle.xl_links.specs.declared.hub.Way.{Way}
use Rattle.xl_links.specs.declared.hub.Way.TheVariants.{Dial, Listen}

-- how a member is reached: it is dialled at an address, or it dials in at one
pub data Reach : Type 0 where
  dialled_at : List ℕ → Reach
  listened_at : List ℕ → Reach

abbrev pub reach_of : Way → Reach
reach_of (Dial address) = dialled_at (string_bytes address)
reach_of (Listen address) = listened_at (string_bytes address)

-- to whom a link is to be, and how the member is reached
pub record Target : Type 0 where
  pub member : ℕ
  pub reach : Reach

abbrev pub target : ℕ → Way → Target
target member way = record { member = member; reach = reach_of way }
