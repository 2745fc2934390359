-- Our own set and the members' held sets, with how many positions stand for each, and what an id has from them.
-- Source: what the code of this crate keeps. No public clause cites this file.
use Rattle.std.specs.Prelude.{◌≡◌, ℕ, zero, suc, ◌^◌, ◌<◌, ◌≤◌, ◌==◌, List, [], ◌∷◌, length, map, sum_by, All, Option, Some, None, unwrap_or, if◌then◌else◌}
use Rattle.std.specs.List.{range_with_len}
use Rattle.xl_base.specs.Sets.{IsSet}
use Rattle.xl_base.specs.declared.ids.TxId.{TxId}
use Rattle.xl_disputes.specs.Tallies.{Tally}
use Rattle.xl_disputes.specs.declared.rows.Row.{Row}
use Rattle.xl_disputes.specs.Disputes.{has}
use Rattle.xl_disputes.specs.Rows.{tally_of, IsIndex}

-- a set, if there is one, how many positions it stands for, and the bit of its member, or 0 if it is our own
pub record Holding : Type 0 where
  pub set : Option (List TxId)
  pub weight : ℕ
  pub bit : ℕ

abbrev pub empty_own : Holding
empty_own = record { set = Some []; weight = 0; bit = 0 }

abbrev pub no_holding : ℕ → Holding
no_holding bit = record { set = None; weight = 0; bit = bit }

-- the bits of the members, in turn
abbrev pub member_bits : List ℕ
member_bits = map (λ n. 2 ^ n) (range_with_len 0 64)

abbrev pub no_holdings : List Holding
no_holdings = empty_own ∷ map no_holding member_bits

abbrev pub with_set : Option (List TxId) → Holding → Holding
with_set set h = record h { set = set }

abbrev pub with_weight : ℕ → Holding → Holding
with_weight weight h = record h { weight = weight }

-- with one of them changed
abbrev pub changed : (Holding → Holding) → ℕ → List Holding → List Holding
changed f place [] = []
changed f zero (h ∷ hs) = f h ∷ hs
changed f (suc place) (h ∷ hs) = h ∷ changed f place hs

abbrev pub ids_in : Holding → List TxId
ids_in h = unwrap_or h.set []

abbrev pub ours_of : Holding → ℕ
ours_of h = if h.bit == 0 then 1 else 0

-- what each of its ids has from it
abbrev pub tally_from : Holding → Tally
tally_from h = record { members = h.bit; yays = h.weight; ours = ours_of h }

-- the sum over those whose set has an id
abbrev pub amount : (Holding → ℕ) → TxId → List Holding → ℕ
amount f tx hs = sum_by (λ h. if has (ids_in h) tx then f h else 0) hs

-- what an id has from all
abbrev pub total : List Holding → TxId → Tally
total hs tx = record {
  members = amount (λ h. h.bit) tx hs;
  yays = amount (λ h. h.weight) tx hs;
  ours = amount ours_of tx hs;
}

-- the index has what each id has from the 65 holdings
pub record IsShared (hs : List Holding) (rows : List Row) : Type 0 where
  pub count : length hs ≡ 65
  pub sets : All (λ h. IsSet (ids_in h)) hs
  pub few : All (λ h. h.weight ≤ 64) hs
  pub bits : sum_by (λ h. h.bit) hs < 2 ^ 64
  pub index : IsIndex rows
  pub each : (tx : TxId) → tally_of rows tx ≡ total hs tx
