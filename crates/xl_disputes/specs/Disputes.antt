-- Sets, positions and what they say of a transaction.
-- Source: rippled's DisputedTx; held sets and the choice among them are this profile's.
use Rattle.std.specs.Prelude.{ℕ, ◌-◌, Bool, false, not, List, [], ◌∷◌, replicate, find, count_by, filter_map, slice_set, Option, Some, None, option_map, if◌then◌else◌}
use Rattle.std.specs.List.{list_any}
use Rattle.std.specs.Str.{bytes_eq}
use Rattle.xl_base.specs.Sets.{set_id_of}
use Rattle.xl_base.specs.declared.ids.TxId.{TxId}
use Rattle.xl_base.specs.declared.ids.SetId.{SetId}
use Rattle.xl_disputes.specs.declared.votes.Votes.{Votes}

-- Our own set, and at each member's place, from member 1 to member 64, the set that the member holds
-- and the set id that its position names, if there is one
pub record Known : Type 0 where
  pub own : List TxId
  pub held : List (Option (List TxId))
  pub positions : List (Option SetId)

abbrev pub nothing_known : Known
nothing_known = record { own = []; held = replicate 64 None; positions = replicate 64 None }

abbrev pub with_own : Known → List TxId → Known
with_own k set = record k { own = set }

-- a member's set is the last one taken from it
abbrev pub with_held : Known → ℕ → List TxId → Known
with_held k member set = record k { held = slice_set k.held (member - 1) (Some set) }

-- a member's position is the last one taken from it
abbrev pub with_position : Known → ℕ → SetId → Known
with_position k member id = record k { positions = slice_set k.positions (member - 1) (Some id) }

abbrev pub without_position : Known → ℕ → Known
without_position k member = record k { positions = slice_set k.positions (member - 1) None }

abbrev pub without_positions : Known → Known
without_positions k = record k { positions = replicate 64 None }

-- neither position nor set
abbrev pub without_member : Known → ℕ → Known
without_member k member = record k {
  held = slice_set k.held (member - 1) None;
  positions = slice_set k.positions (member - 1) None;
}

-- the held sets by rising member
abbrev pub held_sets : List (Option (List TxId)) → List (List TxId)
held_sets held = filter_map (λ set. set) held

-- our own set, and then the held ones
abbrev pub counted_sets : Known → List (List TxId)
counted_sets k = k.own ∷ held_sets k.held

abbrev pub has : List TxId → TxId → Bool
has set tx = list_any (λ id. bytes_eq id.0 tx.0) set

abbrev pub is_named : SetId → List TxId → Bool
is_named id set = bytes_eq (set_id_of set).0 id.0

-- the set of a position: the first counted one that has its id
abbrev pub set_of : Known → SetId → Option (List TxId)
set_of k id = find (is_named id) (counted_sets k)

-- what a position says of a transaction, if its set is held
abbrev pub vote : Known → TxId → Option SetId → Option Bool
vote k tx None = None
vote k tx (Some id) = option_map (λ set. has set tx) (set_of k id)

abbrev pub is_yay : Option Bool → Bool
is_yay None = false
is_yay (Some says) = says

abbrev pub is_nay : Option Bool → Bool
is_nay None = false
is_nay (Some says) = not says

-- how the members' positions vote on a transaction, and whether we have it
abbrev pub votes : Known → TxId → Votes
votes k tx = record {
  yays = count_by (λ position. is_yay (vote k tx position)) k.positions;
  nays = count_by (λ position. is_nay (vote k tx position)) k.positions;
  ours = has k.own tx;
}

-- whether some counted set has it
abbrev pub is_counted : Known → TxId → Bool
is_counted k tx = list_any (λ set. has set tx) (counted_sets k)

-- the votes on a transaction of a counted set
abbrev pub votes_of : Known → TxId → Option Votes
votes_of k tx = if is_counted k tx then Some (votes k tx) else None
