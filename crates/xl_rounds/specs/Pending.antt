-- The pending transactions, in rising order of their ids.
-- Source: rippled's open ledger.
use Rattle.std.specs.Prelude.{nat_le, not, List, [], ◌∷◌, length, filter, Option, Some, None}
use Rattle.xl_base.specs.declared.ids.TxId.{TxId}
use Rattle.xl_disputes.specs.Disputes.{has}
use Rattle.xl_rounds.specs.declared.refusal.RoundRefusal.{RoundRefusal}
use Rattle.xl_rounds.specs.declared.refusal.RoundRefusal.TheVariants.{Pending, PoolFull}
use Rattle.xl_rounds.specs.Lines.{first_line}
use Rattle.xl_rounds.specs.Numbers.{most_pending}

-- why a transaction isn't taken: it is pending, or as many as may be are
abbrev pub submit_refusal : List TxId → TxId → Option RoundRefusal
submit_refusal pending tx = first_line (
    (has pending tx, Some (Pending tx))
    ∷ (nat_le most_pending (length pending), Some (PoolFull most_pending))
    ∷ []) None

-- those that are left if a set is accepted
abbrev pub without_accepted : List TxId → List TxId → List TxId
without_accepted accepted pending = filter (λ tx. not (has accepted tx)) pending
