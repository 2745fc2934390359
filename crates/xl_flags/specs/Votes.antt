-- What members vote for at flag ledgers, the latest vote first, and how votes are counted there.
-- Source: rippled's amendment and fee votes; four fifths, and that a majority is of those counted, are this profile's.
use Rattle.std.specs.Prelude.{ℕ, ◌*◌, ◌==◌, ◌&&◌, ◌||◌, nat_lt, Bool, false, List, length, map, reverse, find, count_by, Option, Some, None, unwrap_or}
use Rattle.std.specs.List.{flat_map}
use Rattle.xl_base.specs.declared.ids.TxId.{TxId}
use Rattle.xl_firsts.specs.Firsts.{first_by}
use Rattle.xl_disputes.specs.Disputes.{has}
use Rattle.xl_disputes.specs.Rising.{rising}

-- so many different amendments may be named
abbrev pub most_amendments : ℕ
most_amendments = 4096

-- from here on a member votes for a fee and for some amendments
pub record Favor : Type 0 where
  pub member : ℕ
  pub fee : ℕ
  pub ids : List TxId

-- a node's report of a flag ledger: when that closed, the votes in force then, and the members that are counted
pub record FlagReport : Type 0 where
  pub node : ℕ
  pub close : ℕ
  pub favors : List Favor
  pub counted : List ℕ

-- the amendments that were named, by rising id, each once
abbrev pub named_amendments : List Favor → List TxId
named_amendments favors = rising (flat_map (λ f. f.ids) (reverse favors))

-- the vote of a member that is in force
abbrev pub vote_of : List Favor → ℕ → Option Favor
vote_of favors m = find (λ f. f.member == m) favors

abbrev pub favours : Option Favor → TxId → Bool
favours None a = false
favours (Some f) a = has f.ids a

-- how many of the counted members favour an amendment
abbrev pub yes_at : FlagReport → TxId → ℕ
yes_at r a = count_by (λ m. favours (vote_of r.favors m) a) r.counted

-- whether more than four fifths of them do
abbrev pub has_majority : TxId → FlagReport → Bool
has_majority a r = nat_lt (4 * length r.counted) (5 * yes_at r a)

-- the fee that a member votes for; without a vote it is the fee in force
abbrev pub fee_vote : Option Favor → ℕ → ℕ
fee_vote None current = current
fee_vote (Some f) current = f.fee

abbrev pub fee_votes : FlagReport → ℕ → List ℕ
fee_votes r current = map (λ m. fee_vote (vote_of r.favors m) current) r.counted

-- whether a fee has more votes than another, or as many and is lower
abbrev pub wins : List ℕ → ℕ → ℕ → Bool
wins votes v w =
    nat_lt (count_by (λ u. u == w) votes) (count_by (λ u. u == v) votes)
    || count_by (λ u. u == v) votes == count_by (λ u. u == w) votes && nat_lt v w

-- the fee that wins; without votes it stays
abbrev pub elected_fee : List ℕ → ℕ → ℕ
elected_fee votes current = unwrap_or (first_by (wins votes) votes) current
