-- What a hub is asked for, and what it would give: links to members, and a door. Source: this project's own.
use Rattle.std.specs.Prelude.{ℕ, List}
use Rattle.std.specs.declared.option.Option.{Option}
use Rattle.xl_links.specs.Doors.{Doorway}
use Rattle.xl_links.specs.Links.{Wire}
use Rattle.xl_links.specs.Ways.{Target}

-- the links that it was asked for, and the addresses at which it was asked for a door, first to last
pub record Requests : Type 0 where
  pub links : Option (List Target)
  pub doors : Option (List (List ℕ))

abbrev pub requests : Option (List Target) → Option (List (List ℕ)) → Requests
requests links doors = record { links = links; doors = doors }

-- what the next link to each member will show, and the next door
pub record Offers : Type 0 where
  pub links : ℕ → Option Wire
  pub door : Option Doorway

abbrev pub offers : (ℕ → Option Wire) → Option Doorway → Offers
offers links door = record { links = links; door = door }
