-- The links that a hub opens, one to each member, and its door. Source: this project's own.
use Rattle.std.specs.Prelude.{◌≡◌, ℕ, List, [], ◌∷◌, ◌++◌, map, IfSome, IsSome, Some, None}
use mathlib.Core.List.{IsPrefix}
use Rattle.std.specs.declared.option.Option.{Option}
use Rattle.std.specs.List.{AllByRecursion}
use Rattle.xl_base.specs.Faults.{Rose}
use Rattle.xl_links.specs.Doors.{Doorway}
use Rattle.xl_links.specs.Links.{Wire}
use Rattle.xl_links.specs.Requests.{Requests}
use Rattle.xl_links.specs.Tellings.{AddsTold}
use Rattle.xl_links.specs.Ways.{Target, target}
use Rattle.xl_workers.specs.declared.plan.Contact.{Contact}
use Rattle.xl_workers.specs.declared.linking.NoLinks.{NoLinks}
use Rattle.xl_workers.specs.declared.linking.NoLinks.TheVariants.{LinkFault, OutOfMemory}
use Rattle.xl_workers.specs.declared.linking.Peer.{Peer}

abbrev pub contact_of : Contact → ℕ
contact_of contact = contact.member

-- what the hub is asked for
abbrev pub target_of : Contact → Target
target_of contact = target contact.member contact.way

abbrev pub member_in : Target → ℕ
member_in t = t.member

-- what a hub shows: how often a call has failed, and what it was asked for, if it tells that
pub record HubSeen : Type 0 where
  pub faults : ℕ
  pub asked : Requests

abbrev pub hub_seen : ℕ → Requests → HubSeen
hub_seen faults asked = record { faults = faults; asked = asked }

-- the hub was asked for the first of these links, in order, and for no others
pub record AsksLinks (old : HubSeen) (all : List Target) (new : HubSeen) : Type 0 where
  pub front : List Target
  pub first : IsPrefix front all
  pub asked : AddsTold old.asked.links new.asked.links front

-- it was asked for the first of these links, in order, of which the last is to this member
pub record AsksLinksTo (old : HubSeen) (all : List Target) (member : ℕ) (new : HubSeen) : Type 0 where
  pub earlier : List Target
  pub last : Target
  pub to : member_in last ≡ member
  pub first : IsPrefix (earlier ++ last ∷ []) all
  pub asked : AddsTold old.asked.links new.asked.links (earlier ++ last ∷ [])

-- why not every link was opened: the hub couldn't make the last one that it was asked for, or memory ran out
abbrev pub IsUnlinked : HubSeen → List Target → HubSeen → NoLinks → Type 0
IsUnlinked old all new (LinkFault member) = AsksLinksTo old all member new × Rose old.faults new.faults
IsUnlinked old all new OutOfMemory = AsksLinks old all new

-- it was asked for a door at this address, or for none
abbrev pub IsDoorAsked : Option (List ℕ) → Option (List (List ℕ)) → Option (List (List ℕ)) → Type 0
IsDoorAsked None old new = new ≡ old
IsDoorAsked (Some address) old new = AddsTold old new (address ∷ [])

-- it was asked for the first of these links, and for no door
pub record AsksNoDoor (old : HubSeen) (all : List Target) (new : HubSeen) : Type 0 where
  pub links : AsksLinks old all new
  pub doors : new.asked.doors ≡ old.asked.doors

-- it was asked for the links up to one to this member, and for no door
pub record AsksUpTo (old : HubSeen) (all : List Target) (member : ℕ) (new : HubSeen) : Type 0 where
  pub links : AsksLinksTo old all member new
  pub doors : new.asked.doors ≡ old.asked.doors

-- it was asked for all of these links, and for the door, if there is an address
pub record AsksAll (old : HubSeen) (all : List Target) (address : Option (List ℕ)) (new : HubSeen) : Type 0 where
  pub links : AddsTold old.asked.links new.asked.links all
  pub doors : IsDoorAsked address old.asked.doors new.asked.doors

-- it was asked for all of these links and then for the door, which there is
abbrev pub AsksUpToDoor : HubSeen → List Target → Option (List ℕ) → HubSeen → Type 0
AsksUpToDoor old all address new = IsSome address × AsksAll old all address new

module _ {L : Type 0} where
  abbrev pub member_of : Peer L → ℕ
  member_of peer = peer.member

  -- the link shows what the hub told of the next link to this member, if it told it
  abbrev pub IsAsTold : (ℕ → Option Wire) → (L → Wire) → Peer L → Type 0
  IsAsTold gives shows peer = IfSome (gives peer.member) (λ wire. shows peer.link ≡ wire)

  -- each link is to the member of its contact, and shows what the hub told of it
  pub record AreLinked (gives : ℕ → Option Wire) (shows : L → Wire)
      (contacts : List Contact) (peers : List (Peer L)) : Type 0 where
    pub members : map member_of peers ≡ map contact_of contacts
    pub told : AllByRecursion (IsAsTold gives shows) peers

module _ {D : Type 0} where
  -- there is a door if there is an address, and it shows what the hub told of the next one, if it told it
  abbrev pub IsDoor : Option Doorway → (D → Doorway) → Option (List ℕ) → Option D → Type 0
  IsDoor told shows None None = Unit {0}
  IsDoor told shows (Some address) (Some door) = IfSome told (λ doorway. shows door ≡ doorway)
  IsDoor told shows None (Some door) = ⊥
  IsDoor told shows (Some address) None = ⊥
