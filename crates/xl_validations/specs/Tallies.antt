-- What a table keeps beside its rows: a branch that has their votes. Source: what the code of this crate relies on.
use Rattle.std.specs.Prelude.{◌≡◌, ℕ, ◌+◌, ◌<◌, ◌≤◌, false, List, ◌++◌, length, map, take, nat_eq, None, option_to_list, if◌then◌else◌}
use Rattle.std.specs.declared.option.Option.{Option}
use Rattle.std.specs.List.{IsDistinct}
use Rattle.xl_lists.specs.Lists.{is_on}
use Rattle.xl_wire.specs.declared.validation.Validation.{Validation}
use Rattle.xl_ledger.specs.declared.header.Header.{Header}
use Rattle.xl_ledger.specs.declared.vote.Vote.{Vote}
use Rattle.xl_ledger.specs.Chains.{AreLedgers}
use Rattle.xl_ledger.specs.Votes.{AreSame, has_voted}
use Rattle.xl_validations.specs.declared.row.Row.{Row}
use Rattle.xl_validations.specs.Votes.{cast, votes_of}

-- the votes are those of the rows, whatever their order, there is room for one of each row, and for one of as many
-- members as a list may have, and the branch goes with the ledgers
pub record IsTally (GoesWith : List Header → Type 0) (ledgers : List Header)
    (rows : List Row) (votes : List Vote) (room : ℕ) : Type 0 where
  pub are : AreLedgers ledgers
  pub goes : GoesWith ledgers
  pub same : AreSame votes (votes_of ledgers rows)
  pub distinct : IsDistinct nat_eq (map (λ row. row.member) rows)
  pub fits : length rows ≤ room
  pub wide : 64 ≤ room

-- the branch is a tally of the rows, by what it says of itself: that it goes with ledgers, its votes, and its room
abbrev pub IsTallyIn : {B : Type 0} → (B → List Header → Type 0) → (B → List Vote) → (B → ℕ)
    → B → List Row → List Header → Type 0
IsTallyIn goes_with votes room branch rows ledgers =
    IsTally (goes_with branch) ledgers rows (votes branch) (room branch)

-- a table: the member whose it is, the rows, and the branch that has their votes
pub record Table (B : Type 0) : Type 0 where
  pub me : ℕ
  pub rows : List Row
  pub branch : B

-- the table's branch is a tally of its rows, and goes with these ledgers
abbrev pub IsTallied : {B : Type 0} → (B → List Header → Type 0) → (B → List Vote) → (B → ℕ)
    → Table B → List Header → Type 0
IsTallied goes_with votes room table ledgers = IsTallyIn goes_with votes room table.branch table.rows ledgers

-- so it is of whatever ledgers, as long as there is no vote
abbrev pub IsTalliedByAny : {B : Type 0} → (B → List Header → Type 0) → (B → List Vote) → (B → ℕ) → Table B → Type 0
IsTalliedByAny goes_with votes room table =
    (ledgers : List Header) → AreLedgers ledgers → IsTallied goes_with votes room table ledgers

-- the ledger was added last, to these
pub record IsNewest (ledgers : List Header) (ledger : ℕ) : Type 0 where
  pub added : 0 < ledger
  pub last : length ledgers ≡ ledger + 1
  pub are : AreLedgers ledgers
  pub known : AreLedgers (take ledger ledgers)

-- what a row has of its vote on another list: a member that isn't on it has none
abbrev pub kept_on : List ℕ → Row → Option Validation
kept_on members row = if is_on members row.member then row.current else None

-- the votes are those of others and the one of a member, if it has one
pub record StandsBeside (votes others : List Vote) (member : ℕ) (ledger : Option ℕ) (room : ℕ) : Type 0 where
  pub same : AreSame votes (others ++ option_to_list (cast member ledger))
  pub apart : has_voted others member ≡ false
  pub fits : length others < room

-- so it is with the votes of a branch: those of some others, and the one of this member
abbrev pub Stands : {B : Type 0} → (B → List Vote) → (B → ℕ) → B → ℕ → Option ℕ → Type 0
Stands votes room branch member ledger =
    (others : List Vote) × StandsBeside (votes branch) others member ledger (room branch)

-- the vote of a member is turned, and those of the others stay, whoever they are
abbrev pub Turns : {B : Type 0} → (B → List Vote) → (B → ℕ) → B → B → ℕ → Option ℕ → Option ℕ → Type 0
Turns votes room old new member before after = (others : List Vote)
    → StandsBeside (votes old) others member before (room old) → StandsBeside (votes new) others member after (room new)
