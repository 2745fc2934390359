-- The members' positions, the sets that members hold, and our own set. Each list has a place for each member, from 1 to
-- 64.
-- Source: classical rippled's Consensus.
use Rattle.std.specs.Prelude.{ℕ, ◌-◌, nat_le, Bool, false, List, replicate, map, filter_map, count_by, slice_set, slice_index_or, Option, Some, None, is_some, option_map, if◌then◌else◌}
use Rattle.std.specs.Str.{bytes_eq}
use Rattle.xl_base.specs.Sets.{set_id_of}
use Rattle.xl_base.specs.declared.ids.TxId.{TxId}
use Rattle.xl_base.specs.declared.ids.SetId.{SetId}
use Rattle.xl_wire.specs.declared.proposal.Proposal.{Proposal}
use Rattle.xl_disputes.specs.Disputes.{Known}
use Rattle.xl_disputes.specs.Next.{winners}
use Rattle.xl_rounds.specs.Numbers.{fresh_secs}

pub record Positions : Type 0 where
  pub members : List (Option Proposal)
  pub held : List (Option (List TxId))
  pub own : List TxId

-- nothing at any member's place
abbrev pub nowhere : {X : Type 0} → List (Option X)
nowhere = replicate 64 None

-- with this at a member's place
abbrev pub with_at : {X : Type 0} → ℕ → X → List X → List X
with_at member x xs = slice_set xs (member - 1) x

abbrev pub no_positions : List TxId → Positions
no_positions own = record { members = nowhere; held = nowhere; own = own }

abbrev pub position_of : Positions → ℕ → Option Proposal
position_of a member = slice_index_or a.members (member - 1) None

abbrev pub with_position : ℕ → Option Proposal → Positions → Positions
with_position member position a = record a { members = with_at member position a.members }

abbrev pub without_positions : Positions → Positions
without_positions a = record a { members = nowhere }

abbrev pub with_held : ℕ → List TxId → Positions → Positions
with_held member set a = record a { held = with_at member (Some set) a.held }

-- neither the position of a member nor the set that it holds
abbrev pub without_member : ℕ → Positions → Positions
without_member member a = record a { members = with_at member None a.members; held = with_at member None a.held }

abbrev pub with_own : List TxId → Positions → Positions
with_own set a = record a { own = set }

-- how many members have a position
abbrev pub count : Positions → ℕ
count a = count_by is_some a.members

-- a position is old once `fresh_secs` seconds have passed since it was taken
abbrev pub is_old : ℕ → Proposal → Bool
is_old now p = nat_le p.time (now - fresh_secs)

abbrev pub unless_old : ℕ → Option Proposal → Option Proposal
unless_old now None = None
unless_old now (Some p) = if is_old now p then None else Some p

abbrev pub without_old : ℕ → Positions → Positions
without_old now a = record a { members = map (unless_old now) a.members }

-- what the positions say of sets
abbrev pub set_named : Option Proposal → Option SetId
set_named position = option_map (λ (p : Proposal). p.set) position

abbrev pub known_by : Positions → Known
known_by a = record { own = a.own; held = a.held; positions = map set_named a.members }

-- our next set by the votes of the positions, if a yes vote must weigh more than needed
abbrev pub next_set : ℕ → Bool → Positions → List TxId
next_set needed proposing a = winners (known_by a) needed proposing

-- the close times of the positions, by rising member
abbrev pub times_of : List (Option Proposal) → List ℕ
times_of members = filter_map (λ position. option_map (λ (p : Proposal). p.close) position) members

abbrev pub close_times : Positions → List ℕ
close_times a = times_of a.members

-- how many positions name our set
abbrev pub names : SetId → Option Proposal → Bool
names id None = false
names id (Some p) = bytes_eq p.set.0 id.0

abbrev pub count_agreeing : Positions → ℕ
count_agreeing a = count_by (names (set_id_of a.own)) a.members
