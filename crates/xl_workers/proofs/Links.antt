-- One link more is opened.
use Rattle.std.proofs.Common.{◌≡◌, ◌≢◌, ◌+◌, ℕ, false, Option, List, [], ◌∷◌, ◌++◌, length, map, refl, sym, ap, ◌∙◌, arith, append_assoc, append-nil, length-append, subst}
use Rattle.std.specs.Prelude.{nat_eq, IfSome}
use Rattle.std.proofs.lemmas.List.{map-append}
use Rattle.std.specs.List.{AllByRecursion, IsDistinct}
use Rattle.xl_links.specs.Links.{Wire}
use Rattle.xl_links.specs.Requests.{Requests}
use Rattle.xl_links.specs.Tellings.{AddsTold}
use Rattle.xl_links.specs.Ways.{Target}
use Rattle.xl_peers.proofs.Growing.{tells_nothing, tells_both}
use Rattle.xl_workers.specs.declared.plan.Contact.{Contact}
use Rattle.xl_workers.specs.declared.linking.Peer.{Peer}
use Rattle.xl_workers.specs.Linking.{contact_of, member_of, member_in, target_of, HubSeen, hub_seen, AsksLinks, AsksLinksTo, IsAsTold, AreLinked}
use Rattle.xl_workers.proofs.Pairs.{all_more}

-- the targets of contacts have their members
pub same_members : (contacts : List Contact) → map member_in (map target_of contacts) ≡ map contact_of contacts
same_members [] = refl
same_members (c ∷ cs) = ap (λ (l : List ℕ). contact_of c ∷ l) (same_members cs)

-- the hub was asked for the links to all contacts but these
pub record AsksSome (old now : Option (List Target)) (all rest : List Contact) : Type 0 where
  pub done : List Target
  pub parts : done ++ map target_of rest ≡ map target_of all
  pub asked : AddsTold old now done

pub asks_none : (told : Option (List Target)) (all : List Contact) → AsksSome told told all all
asks_none told all = record { done = []; parts = refl; asked = tells_nothing told }

pub asks_more : (old now later : Option (List Target)) (all rest : List Contact) (contact : Contact)
    → AsksSome old now all (contact ∷ rest) → AddsTold now later (target_of contact ∷ []) → AsksSome old later all rest
asks_more old now later all rest contact s more = record {
  done = s.done ++ target_of contact ∷ [];
  parts = append_assoc s.done (target_of contact ∷ []) (map target_of rest) ∙ s.parts;
  asked = tells_both old now later s.done (target_of contact ∷ []) s.asked more;
}

pub asks_all : (old now : Option (List Target)) (all : List Contact) → AsksSome old now all []
    → AddsTold old now (map target_of all)
asks_all old now all s =
    subst (λ (l : List Target). AddsTold old now l) (sym (append-nil s.done) ∙ s.parts) s.asked

-- the last that it was asked for is the link to this contact
pub asks_to : (old_faults now_faults : ℕ) (old before now : Requests) (all rest : List Contact) (contact : Contact) (member : ℕ)
    → contact_of contact ≡ member
    → AsksSome old.links before.links all (contact ∷ rest) → AddsTold before.links now.links (target_of contact ∷ [])
    → AsksLinksTo (hub_seen old_faults old) (map target_of all) member (hub_seen now_faults now)
asks_to old_faults now_faults old before now all rest contact member same s more = record {
  earlier = s.done;
  last = target_of contact;
  to = same;
  first = (map target_of rest, append_assoc s.done (target_of contact ∷ []) (map target_of rest) ∙ s.parts);
  asked = tells_both old.links before.links now.links s.done (target_of contact ∷ []) s.asked more;
}

-- all links of a plan begin with all of them
pub all_front : (old new : HubSeen) (targets : List Target) → AddsTold old.asked.links new.asked.links targets
    → AsksLinks old targets new
all_front old new targets a = record { front = targets; first = ([], append-nil targets); asked = a }

-- and with none
pub none_front : (old new : HubSeen) (targets : List Target) → new.asked.links ≡ old.asked.links
    → AsksLinks old targets new
none_front old new targets same = record {
  front = [];
  first = (targets, refl);
  asked = subst (λ (told : Option (List Target)). AddsTold old.asked.links told []) (sym same)
      (tells_nothing old.asked.links);
}

-- the hub tells of this contact's link what it told at first
abbrev pub IsStill : (ℕ → Option Wire) → (ℕ → Option Wire) → Contact → Type 0
IsStill first now contact = now (contact_of contact) ≡ first (contact_of contact)

pub all_still : (gives : ℕ → Option Wire) (contacts : List Contact) → AllByRecursion (IsStill gives gives) contacts
all_still gives [] = tt
all_still gives (c ∷ cs) = (refl, all_still gives cs)

other : (a b : ℕ) → nat_eq a b ≡ false → b ≢ a
other a b e = λ same. absurd (grind (arith, e, same))

still_next : (first now later : ℕ → Option Wire) (member : ℕ) (contacts : List Contact)
    → ((m : ℕ) → m ≢ member → later m ≡ now m)
    → AllByRecursion (λ m. nat_eq member m ≡ false) (map contact_of contacts)
    → AllByRecursion (IsStill first now) contacts
    → AllByRecursion (IsStill first later) contacts
still_next first now later member [] same differ h = tt
still_next first now later member (c ∷ cs) same differ h = (
  same (contact_of c) (other member (contact_of c) differ.0) ∙ h.0,
  still_next first now later member cs same differ.1 h.1,
)

module _ {L : Type 0} (first : ℕ → Option Wire) (shows : L → Wire) (all : List Contact) where
  -- so many contacts have no link yet
  pub record SomeLinked (now : ℕ → Option Wire) (rest : List Contact) (peers : List (Peer L)) : Type 0 where
    pub members : map member_of peers ++ map contact_of rest ≡ map contact_of all
    pub told : AllByRecursion (IsAsTold first shows) peers
    pub still : AllByRecursion (IsStill first now) rest
    pub once : IsDistinct nat_eq (map contact_of rest)
    pub long : length peers + length rest ≡ length all

  pub linked_none : IsDistinct nat_eq (map contact_of all) → SomeLinked first all []
  linked_none once = record { members = refl; told = tt; still = all_still first all; once = once; long = omega arith }

  pub linked_more : (now later : ℕ → Option Wire) (contact : Contact) (rest : List Contact) (peers : List (Peer L))
      (peer : Peer L)
      → SomeLinked now (contact ∷ rest) peers
      → peer.member ≡ contact_of contact
      → IfSome (now (contact_of contact)) (λ wire. shows peer.link ≡ wire)
      → ((m : ℕ) → m ≢ contact_of contact → later m ≡ now m)
      → SomeLinked later rest (peers ++ peer ∷ [])
  unfolding IsDistinct
  linked_more now later contact rest peers peer s member told same = record {
    members = ap (λ (l : List ℕ). l ++ map contact_of rest) (map-append member_of peers (peer ∷ []))
        ∙ append_assoc (map member_of peers) (peer.member ∷ []) (map contact_of rest)
        ∙ ap (λ (m : ℕ). map member_of peers ++ (m ∷ map contact_of rest)) member
        ∙ s.members;
    told = all_more (IsAsTold first shows) peers peer s.told
        (subst (λ (wire : Option Wire). IfSome wire (λ w. shows peer.link ≡ w))
        (s.still.0 ∙ ap first (sym member)) told);
    still = still_next first now later (contact_of contact) rest same s.once.0 s.still.1;
    once = s.once.1;
    long = let e = s.long in omega (arith, e, length-append peers (peer ∷ []));
  }

  pub linked_all : (now : ℕ → Option Wire) (peers : List (Peer L)) → SomeLinked now [] peers
      → AreLinked first shows all peers
  linked_all now peers s = record { members = sym (append-nil (map member_of peers)) ∙ s.members; told = s.told }
