-- The ledger that a node builds on what its round agreed on, and what it says of its position.
-- Source: Chase and MacBrough, "Analysis of the XRP Ledger Consensus Protocol" (2018); classical rippled's Consensus.
use Rattle.std.specs.Prelude.{ℕ, Bool, false, List, [], ◌∷◌, length, option_map, nat_le, if◌then◌else◌}
use Rattle.std.specs.Prelude.{Some, None}
use Rattle.std.specs.declared.option.Option.{Option}
use Rattle.xl_closetime.specs.Rounding.{effective}
use Rattle.xl_ledger.specs.declared.header.Header.{Header}
use Rattle.xl_ledger.specs.Chains.{header_at, id_at, place_of}
use Rattle.xl_ledger.specs.Headers.{header_id, next_header}
use Rattle.xl_ledger.specs.Registries.{Ledgers, with_header}
use Rattle.xl_rounds.specs.declared.phase.Mode.{Mode}
use Rattle.xl_rounds.specs.declared.phase.Mode.TheVariants.{Proposing, Observing}
use Rattle.xl_rounds.specs.declared.heartbeat.Agreed.{Agreed}
use Rattle.xl_rounds.specs.declared.heartbeat.Said.{Said}
use Rattle.xl_wire.specs.declared.proposal.Proposal.{Proposal}
use Rattle.xl_wire.specs.declared.validation.Validation.{Validation}
use Rattle.xl_core.specs.declared.timer_answer.Issued.{Issued}
use Rattle.xl_core.specs.declared.timer_answer.Issued.TheVariants.{Full, Partial, Silent, Refused}
use Rattle.xl_core.specs.declared.item.Item.{Item}
use Rattle.xl_core.specs.declared.item.Item.TheVariants.{TxSet, Proposal as Position}
use Rattle.xl_core.specs.declared.refusal.Refusal.{Refusal}

-- how a node takes part in a round, unless it has switched to another ledger
abbrev pub usual_mode : Bool → Mode
usual_mode validating = if validating then Proposing else Observing

-- our set, if it goes with our position, and then the position
abbrev pub said_items : Option Said → List Item
said_items None = []
said_items (Some said) =
    if said.with_set then TxSet said.proposal.set ∷ Position said.proposal ∷ []
    else Position said.proposal ∷ []

-- a position that is said without the set
abbrev pub alone : Option Proposal → Option Said
alone position = option_map (λ p. let said : Said = record { proposal = p; with_set = false } in said) position

-- the header that follows a ledger by what a round agreed on
abbrev pub next_by : List Header → ℕ → Agreed → Header
next_by ledgers previous a =
    let parent = header_at ledgers previous in
    next_header (id_at ledgers previous) parent a.set (effective a.close a.resolution parent.close) a.resolution

-- ledgers among which a header is known, and its place there
pub record Knowing : Type 0 where
  pub ledgers : Ledgers
  pub place : ℕ

-- a header that isn't known is added, if there is room
abbrev pub knowing_at : Ledgers → Header → Option ℕ → Option Knowing
knowing_at r h (Some place) = Some (record { ledgers = r; place = place })
knowing_at r h None =
    if nat_le r.limit (length r.headers) then None
    else Some (record { ledgers = with_header r h; place = length r.headers })

abbrev pub knowing_of : Ledgers → Header → Option Knowing
knowing_of r h = knowing_at r h (place_of r.headers (header_id h))

-- how a built ledger was validated
abbrev pub how_issued : Option Refusal → Option Validation → Issued
how_issued (Some why) issued = Refused why
how_issued None None = Silent
how_issued None (Some v) = if v.full then Full else Partial
