-- Which set each position stands for, and what is known from the holdings.
-- Source: what the code of this crate keeps. No public clause cites this file.
use Rattle.std.specs.Prelude.{◌≡◌, ℕ, suc, ◌+◌, ◌-◌, ◌≤◌, nat_lt, Bool, true, false, not, List, [], ◌∷◌, ◌++◌, length, map, replicate, fold, take, drop, filter, flat_map, sum_by, slice_set, slice_index_or, All, Option, Some, None, if◌then◌else◌}
use Rattle.std.specs.List.{prefix_len}
use Rattle.xl_base.specs.declared.ids.TxId.{TxId}
use Rattle.xl_base.specs.declared.ids.SetId.{SetId}
use Rattle.xl_disputes.specs.declared.votes.Votes.{Votes}
use Rattle.xl_disputes.specs.Tallies.{Tally}
use Rattle.xl_disputes.specs.declared.rows.Row.{Row}
use Rattle.xl_disputes.specs.Disputes.{Known, is_named}
use Rattle.xl_disputes.specs.Rising.{lowest}
use Rattle.xl_disputes.specs.Votes.{next_vote}
use Rattle.xl_disputes.specs.Holdings.{Holding, member_bits, no_holding, ids_in, total, with_weight}

abbrev pub names : SetId → Option (List TxId) → Bool
names id None = false
names id (Some set) = is_named id set

-- the place of the first set that a position names, or else the number of places
abbrev pub stand : List Holding → Option SetId → ℕ
stand hs None = length hs
stand hs (Some id) = prefix_len (λ h. not (names id h.set)) hs

-- one more at a place, if there is one
abbrev pub with_one : ℕ → List ℕ → List ℕ
with_one place weights = slice_set weights place (slice_index_or weights place 0 + 1)

-- how many positions each place's set stands for
abbrev pub standings : List Holding → List (Option SetId) → List ℕ
standings hs positions = fold (λ weights position. with_one (stand hs position) weights) (replicate 65 0) positions

-- with these weights
abbrev pub weighed : List ℕ → List Holding → List Holding
weighed [] hs = hs
weighed (weight ∷ weights) [] = []
weighed (weight ∷ weights) (h ∷ hs) = with_weight weight h ∷ weighed weights hs

-- how many positions stand for a set
abbrev pub voters : List Holding → ℕ
voters hs = sum_by (λ h. h.weight) hs

-- what a tally says, if this many positions vote
abbrev pub votes_by : ℕ → Tally → Votes
votes_by n tally = record { yays = tally.yays; nays = n - tally.yays; ours = nat_lt 0 tally.ours }

-- whether our next vote on a row's id is yes, if this many positions vote
abbrev pub wins : ℕ → ℕ → Bool → Row → Bool
wins n needed proposing row = next_vote needed proposing (votes_by n row.tally)

-- with a row's id behind others, if our next vote on it is yes, and there aren't 256
abbrev pub with_row : ℕ → ℕ → Bool → Row → List TxId → List TxId
with_row n needed proposing row ids = if wins n needed proposing row then take 256 (ids ++ row.id ∷ []) else ids

-- of the holdings' ids that pass the 256 lowest
abbrev pub next_of : List Holding → ℕ → Bool → List TxId
next_of hs needed proposing =
    lowest 256 (filter (λ tx. next_vote needed proposing (votes_by (voters hs) (total hs tx))) (flat_map ids_in hs))

-- our own place's set
abbrev pub own_in : List Holding → Option (List TxId)
own_in [] = None
own_in (h ∷ hs) = h.set

-- its ids
abbrev pub own_ids : List Holding → List TxId
own_ids [] = []
own_ids (h ∷ hs) = ids_in h

-- the members' sets
abbrev pub held_in : List Holding → List (Option (List TxId))
held_in [] = []
held_in (h ∷ hs) = map (λ x. x.set) hs

abbrev pub known_of : List Holding → List (Option SetId) → Known
known_of hs positions = record { own = own_ids hs; held = held_in hs; positions = positions }

-- our own place has a set, each place has its bit, and each set has the weight of the positions that stand for it
pub record IsKept (hs : List Holding) (positions : List (Option SetId)) : Type 0 where
  pub places : length hs ≡ 65
  pub own : own_in hs ≡ Some (own_ids hs)
  pub bits : map (λ h. h.bit) hs ≡ 0 ∷ member_bits
  pub count : length positions ≡ 64
  pub weights : map (λ h. h.weight) hs ≡ standings hs positions

-- no member above this one has a position, or a set
pub record IsLast (last : ℕ) (hs : List Holding) (positions : List (Option SetId)) : Type 0 where
  pub within : last ≤ 64
  pub unnamed : All (λ position. position ≡ None) (drop last positions)
  pub unheld : All (λ h. h ≡ no_holding h.bit) (drop (suc last) hs)

-- what is kept while the positions are not counted yet
pub record IsWeighable (hs : List Holding) (positions : List (Option SetId)) : Type 0 where
  pub places : length hs ≡ 65
  pub own : own_in hs ≡ Some (own_ids hs)
  pub bits : map (λ h. h.bit) hs ≡ 0 ∷ member_bits
  pub count : length positions ≡ 64

-- and there is room for our next set; once settled, each set has the weight of the positions that stand for it
pub record IsReady (hs : List Holding) (positions : List (Option SetId)) (last room : ℕ) (settled : Bool) : Type 0 where
  pub able : IsWeighable hs positions
  pub ends : IsLast last hs positions
  pub roomy : 256 ≤ room
  pub weights : settled ≡ true → map (λ h. h.weight) hs ≡ standings hs positions
