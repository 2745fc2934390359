-- Words that several lines of `xl tell` share. Ids are printed as in a report. Source: this project's own formats.
use Rattle.std.specs.Prelude.{ℕ, Bool, List, [], ◌∷◌, ◌++◌, decimal, codes, Option, Some, None, if◌then◌else◌}
use Rattle.std.specs.List.{flat_map}
use Rattle.xl_base.specs.declared.ids.LedgerId.{LedgerId}
use Rattle.xl_base.specs.declared.ids.SetId.{SetId}
use Rattle.xl_base.specs.declared.ids.TxId.{TxId}
use Rattle.xl_lists.specs.Lists.{TrustedList}
use Rattle.xl_sched.specs.declared.named.Named.{Named}
use Rattle.xl_wire.specs.declared.proposal.Proposal.{Proposal}
use Rattle.xl_wire.specs.declared.validation.Validation.{Validation}
use Rattle.xl_running.specs.Texts.{id_text, space}

abbrev pub set_text : List Named → SetId → List ℕ
set_text names id = id_text names (record { 0 = id.0 })

abbrev pub tx_text : List Named → TxId → List ℕ
tx_text names id = id_text names (record { 0 = id.0 })

-- numbers of members, with a comma between each two
abbrev pub members_text : List ℕ → List ℕ
members_text [] = []
members_text (first ∷ others) = decimal first ++ flat_map (λ other. codes "," ++ decimal other) others

-- ids of transactions, with a comma between each two, or `-` for none
abbrev pub ids_text : List Named → List TxId → List ℕ
ids_text names [] = codes "-"
ids_text names (first ∷ others) = tx_text names first ++ flat_map (λ other. codes "," ++ tx_text names other) others

-- a quorum and the members
abbrev pub list_text : TrustedList → List ℕ
list_text list = decimal list.quorum ++ space ++ members_text list.members

abbrev pub fullness_text : Bool → List ℕ
fullness_text full = if full then codes "full" else codes "partial"

-- the ledger that was last reported, if it is told
abbrev pub validated_text : List Named → Option LedgerId → List ℕ
validated_text names None = []
validated_text names (Some id) = space ++ id_text names id

abbrev pub validation_text : List Named → Validation → List ℕ
validation_text names v =
    decimal v.seq ++ space ++ id_text names v.id ++ space ++ decimal v.signed ++ space ++ fullness_text v.full
    ++ validated_text names v.validated

abbrev pub proposal_text : List Named → Proposal → List ℕ
proposal_text names p =
    id_text names p.prev ++ space ++ set_text names p.set ++ space ++ decimal p.pseq ++ space ++ decimal p.close
    ++ space ++ decimal p.time
